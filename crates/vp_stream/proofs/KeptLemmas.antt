-- What a stream holds, as its reader goes on.
use Rattle.std.proofs.Common.{◌≡◌, ◌≢◌, ℕ, zero, suc, ◌+◌, List, [], ◌++◌, length, drop, Option, Some, None, Result, Ok, Err, refl, sym, ap, ◌∙◌, zero-add, append_assoc, arith}
use Rattle.std.proofs.lemmas.List.{append-nil, length-append}
use Rattle.std.proofs.lemmas.Bool.Decides.{nat_tests}
use Rattle.vp_base.specs.declared.limits.Limits.{Limits}
use Rattle.vp_ivf.specs.declared.packet.Packet.{Packet}
use Rattle.vp_ivf.specs.declared.packet.IvfHead.{IvfHead}
use Rattle.vp_ivf.specs.declared.fault.FileFault.{FileFault}
use Rattle.vp_ivf.specs.Ivf.{Contents, next_size, next_head, cuts, read_file, read_from, with_prefix, resume, resume_at}
use Rattle.vp_ivf.specs.Reader.{ReaderState}
use Rattle.vp_ivf.specs.declared.fault.FeedError.{FeedError}
use Rattle.vp_ivf.specs.declared.fault.FeedError.TheVariants.{Memory, Fault}
use Rattle.vp_ivf.proofs.Cuts.{cuts-whole, cuts-stop, cuts-fault}
use Rattle.vp_ivf.proofs.Append.{read-append}
use Rattle.vp_stream.specs.Answers.{reading_of}
use Rattle.vp_stream.specs.Stream.{Stream, StreamHistory, IsStreamAfter, IsKept, with_taken_packets, after_piece, with_piece}
use Rattle.vp_stream.specs.Seeking.{AreKeys}

-- ---- the packets that were cut and those that may still come are the limit

abbrev pub all_of : Contents → ℕ
all_of r = length r.packets + r.left

none_whole : (max : ℕ) (b : List ℕ) (s : ℕ) → next_size max 0 b ≡ Ok (Some s) → ⊥
unfolding next_size
none_whole max b s e = grind (arith, nat_tests)

cuts_zero : (head : Option IvfHead) (max : ℕ) (b : List ℕ) (r : Result (Option ℕ) FileFault) → next_size max 0 b ≡ r → all_of (cuts head max 0 b) ≡ 0
cuts_zero head max b (Err f) e = rw (cuts-fault head max 0 b f e) refl
cuts_zero head max b (Ok None) e = rw (cuts-stop head max 0 b e) refl
cuts_zero head max b (Ok (Some s)) e = absurd (none_whole max b s e)

cuts_step : (head : Option IvfHead) (max n : ℕ) (b : List ℕ) (r : Result (Option ℕ) FileFault) → next_size max (suc n) b ≡ r
    → ((c : List ℕ) → all_of (cuts head max n c) ≡ n)
    → all_of (cuts head max (suc n) b) ≡ suc n
cuts_step head max n b (Err f) e later = rw (cuts-fault head max (suc n) b f e) (zero-add (suc n))
cuts_step head max n b (Ok None) e later = rw (cuts-stop head max (suc n) b e) (zero-add (suc n))
cuts_step head max n b (Ok (Some s)) e later =
    let more : all_of (cuts head max n (drop (12 + s) b)) ≡ n = later (drop (12 + s) b) in
    rw (cuts-whole head max n b s e) (omega (arith, more))

cuts_all : (head : Option IvfHead) (max n : ℕ) (b : List ℕ) → all_of (cuts head max n b) ≡ n
cuts_all head max zero b = cuts_zero head max b (next_size max 0 b) refl
cuts_all head max (suc n) b = cuts_step head max n b (next_size max (suc n) b) refl (λ c. cuts_all head max n c)

read_by : (max n : ℕ) (b : List ℕ) (r : Result (Option IvfHead) FileFault) → next_head b ≡ r → all_of (read_file max n b) ≡ n
unfolding read_file
read_by max n b (Err f) e = rw e (zero-add n)
read_by max n b (Ok None) e = rw e (zero-add n)
read_by max n b (Ok (Some h)) e = rw e (cuts_all (Some h) max n (drop 32 b))

read_on : (head : Option IvfHead) (max n : ℕ) (b : List ℕ) → all_of (read_from head max n b) ≡ n
read_on None max n b = read_by max n b (next_head b) refl
read_on (Some h) max n b = cuts_all (Some h) max n b

resumed : (f : Option FileFault) (max : ℕ) (r : Contents) (more : List ℕ) → all_of (resume_at f max r more) ≡ all_of r
resumed (Some f) max r more = refl
resumed None max r more =
    let later = read_from r.head max r.left (r.rest ++ more) in
    let e : length later.packets + later.left ≡ r.left = read_on r.head max r.left (r.rest ++ more) in
    rw (length-append r.packets later.packets) (omega (arith, e))

pub resume_all : (max : ℕ) (r : Contents) (more : List ℕ) → length (resume max r more).packets + (resume max r more).left ≡ length r.packets + r.left
resume_all max r more = resumed r.fault max r more

-- ---- packets that were taken before come in front

front_resumes : (f : Option FileFault) (max : ℕ) (front : List Packet) (r : Contents) (more : List ℕ)
    → with_prefix front (resume_at f max r more) ≡ resume_at f max (with_prefix front r) more
front_resumes None max front r more =
    ap (λ ps. record (read_from r.head max r.left (r.rest ++ more)) { packets = ps }) (sym (append_assoc front r.packets _))
front_resumes (Some f) max front r more = refl

pub front_resume : (max : ℕ) (front : List Packet) (r : Contents) (more : List ℕ) → with_prefix front (resume max r more) ≡ resume max (with_prefix front r) more
front_resume max front r more = front_resumes r.fault max front r more

-- ---- a piece

-- the packets of a reader and those that may still come stay within the limit
pub few_after : (old new : ReaderState) (r : Result (Unit {0}) FeedError) (piece : List ℕ)
    → (r ≡ Err Memory → new ≡ old) → (r ≢ Err Memory → new ≡ record old { reading = resume old.max old.reading piece })
    → all_of new.reading ≡ all_of old.reading
few_after old new (Ok u) piece memory reading =
    ap (λ (s : ReaderState). all_of s.reading) (reading (λ x. cc)) ∙ resume_all old.max old.reading piece
few_after old new (Err Memory) piece memory reading = ap (λ (s : ReaderState). all_of s.reading) (memory refl)
few_after old new (Err (Fault f)) piece memory reading =
    ap (λ (s : ReaderState). all_of s.reading) (reading (λ x. cc)) ∙ resume_all old.max old.reading piece

pub room_after : (limits : Limits) (old new : ReaderState) (before : List Packet) (r : Result (Unit {0}) FeedError) (piece : List ℕ)
    → old.reading.packets ≡ [] → length before + old.reading.left ≡ limits.packets
    → (r ≡ Err Memory → new ≡ old) → (r ≢ Err Memory → new ≡ record old { reading = resume old.max old.reading piece })
    → length before + all_of new.reading ≡ limits.packets
room_after limits old new before r piece taken room memory reading =
    let none : length old.reading.packets ≡ 0 = ap (λ (ps : List Packet). length ps) taken in
    omega (arith, room, none, few_after old new r piece memory reading)

-- what is kept after a piece
pub kept_after : (limits : Limits) (old fed last : ReaderState) (before packets : List Packet) (keys : List (Option ℕ))
    → old.max ≡ limits.packet_bytes → fed.max ≡ old.max
    → length before + all_of fed.reading ≡ limits.packets
    → last ≡ record fed { reading = record fed.reading { packets = [] } }
    → packets ≡ before ++ fed.reading.packets → AreKeys packets keys
    → IsKept limits last packets keys
kept_after limits old fed last before packets keys max same_max room last_is packets_are keys_are = record {
  max = ap (λ (s : ReaderState). s.max) last_is ∙ (same_max ∙ max);
  taken = ap (λ (s : ReaderState). s.reading.packets) last_is;
  room = omega (arith, ap (λ (s : ReaderState). s.reading.left) last_is, ap (λ (ps : List Packet). length ps) packets_are, length-append before fed.reading.packets, room);
  places = keys_are;
}

-- the reader took a piece, and then its packets were taken
pub after_taking : (limits : Limits) (old fed last : ReaderState) (before packets : List Packet) (piece : List ℕ)
    → old.max ≡ limits.packet_bytes
    → fed ≡ record old { reading = resume old.max old.reading piece }
    → last ≡ record fed { reading = record fed.reading { packets = [] } }
    → packets ≡ before ++ fed.reading.packets
    → let s : Stream = record { limits = limits; reading = with_taken_packets last packets; ended = last.ended } in
    s ≡ after_piece (record { limits = limits; reading = with_taken_packets old before; ended = old.ended }) piece
after_taking limits old fed last before packets piece max fed_is last_is packets_are =
    let reading : with_taken_packets last packets ≡ resume limits.packet_bytes (with_taken_packets old before) piece =
    ap (λ (s : ReaderState). with_taken_packets s packets) last_is
    ∙ (ap (λ ps. record fed.reading { packets = ps }) (append-nil packets ∙ packets_are)
    ∙ (ap (λ (s : ReaderState). with_taken_packets s before) fed_is
    ∙ (ap (λ m. with_prefix before (resume m old.reading piece)) max ∙ front_resume limits.packet_bytes before old.reading piece))) in
    let ended : last.ended ≡ old.ended = ap (λ (s : ReaderState). s.ended) (last_is ∙ ap (λ (s : ReaderState). record s { reading = record s.reading { packets = [] } }) fed_is) in
    λ i. record { limits = limits; reading = reading i; ended = ended i }

pub stands_on : (old new : Stream) (h : StreamHistory) (piece : List ℕ) → new ≡ after_piece old piece → IsStreamAfter old h → IsStreamAfter new (with_piece h piece)
stands_on old new h piece e stands =
    let read_on : resume old.limits.packet_bytes old.reading piece ≡ reading_of old.limits (h.fed ++ piece) =
    ap (λ r. resume old.limits.packet_bytes r piece) stands.reading ∙ sym (read-append old.limits.packet_bytes old.limits.packets h.fed piece) in
    rw e (record { reading = read_on; ended = stands.ended })
