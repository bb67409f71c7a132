-- What is cut is within the limits.
use Rattle.std.proofs.Common.{◌≡◌, ℕ, zero, suc, ◌+◌, ◌≤◌, ◌<◌, Bool, true, false, not, cond, nat_lt, nat_eq, codes, List, [], ◌∷◌, length, take, drop, Option, Some, None, Result, Ok, Err, refl, ap, ◌∙◌, arith}
use Rattle.std.proofs.lemmas.List.{length-drop, length-take-le, get_or-drop}
use Rattle.std.proofs.lemmas.Bool.Decides.{nat_tests}
use Rattle.std.specs.List.{starts_with}
use Rattle.byteorder.specs.Numbers.{little_from-lt}
use Rattle.vp_ivf.specs.declared.packet.Packet.{Packet}
use Rattle.vp_ivf.specs.declared.packet.IvfHead.{IvfHead}
use Rattle.vp_ivf.specs.declared.fault.FileFault.{FileFault}
use Rattle.vp_ivf.specs.declared.fault.FileFault.TheVariants.{Signature, Codec, TooMany, PacketTooLarge, Torn, Ended}
use Rattle.vp_ivf.specs.Ivf.{Contents, packet_size, parsed_ivf_head, packet_at, next_size, next_head, cuts, read_file, with_prefix, stop}
use Rattle.vp_ivf.specs.Laws.{AreFileBytes, PacketFits, AllPacketsFit, ShowsFileFault, CountsPackets, CutsWhatFits, ShowsFaults}
use Rattle.vp_ivf.proofs.Cuts.{cuts-whole, cuts-stop, cuts-fault, next_size-size}
use Rattle.vp_ivf.proofs.Append.{next_size-whole}
use Rattle.vp_ivf.proofs.Few.{none_whole}

-- counts

counts_none : (h : Option IvfHead) (max : ℕ) (b : List ℕ) (r : Result (Option ℕ) FileFault) → next_size max 0 b ≡ r
    → (cuts h max 0 b).left + length (cuts h max 0 b).packets ≡ 0
counts_none h max b (Err f) e = rw (cuts-fault h max 0 b f e) refl
counts_none h max b (Ok None) e = rw (cuts-stop h max 0 b e) refl
counts_none h max b (Ok (Some s)) e = absurd (none_whole max b s e)

counts_more : (h : Option IvfHead) (max n : ℕ) (b : List ℕ) (r : Result (Option ℕ) FileFault) → next_size max (suc n) b ≡ r
    → ((c : List ℕ) → (cuts h max n c).left + length (cuts h max n c).packets ≡ n)
    → (cuts h max (suc n) b).left + length (cuts h max (suc n) b).packets ≡ suc n
counts_more h max n b (Err f) e later = rw (cuts-fault h max (suc n) b f e) (omega arith)
counts_more h max n b (Ok None) e later = rw (cuts-stop h max (suc n) b e) (omega arith)
counts_more h max n b (Ok (Some s)) e later = rw (cuts-whole h max n b s e) (omega (arith, later (drop (12 + s) b)))

cuts-counts : (h : Option IvfHead) (max n : ℕ) (b : List ℕ) → (cuts h max n b).left + length (cuts h max n b).packets ≡ n
cuts-counts h max zero b = counts_none h max b (next_size max 0 b) refl
cuts-counts h max (suc n) b = counts_more h max n b (next_size max (suc n) b) refl (λ c. cuts-counts h max n c)

read_counts : (max n : ℕ) (b : List ℕ) (r : Result (Option IvfHead) FileFault) → next_head b ≡ r → (read_file max n b).left + length (read_file max n b).packets ≡ n
unfolding read_file
read_counts max n b (Err f) e = rw e (omega arith)
read_counts max n b (Ok None) e = rw e (omega arith)
read_counts max n b (Ok (Some h)) e = rw e (cuts-counts (Some h) max n (drop 32 b))

pub counts_packets : CountsPackets
counts_packets max n b = read_counts max n b (next_head b) refl

-- sizes

allowed_step : (l max size s : ℕ)
    → cond (nat_lt l 12) (Ok None) (cond (nat_lt max size) (Err PacketTooLarge) (cond (nat_lt l (12 + size)) (Ok None) (Ok (Some size)))) ≡ Ok (Some s)
    → s ≤ max
allowed_step l max size s h = grind (arith, nat_tests)

next_size-allowed : (max n : ℕ) (b : List ℕ) (s : ℕ) → next_size max (suc n) b ≡ Ok (Some s) → s ≤ max
unfolding next_size
next_size-allowed max n b s h = allowed_step (length b) max (packet_size b) s h

packet_fits : (max n s : ℕ) (b : List ℕ) → AreFileBytes b → next_size max (suc n) b ≡ Ok (Some s) → PacketFits max (packet_at s b)
packet_fits max n s b small e =
    let whole = next_size-whole max (suc n) b s e in
    let is : s ≡ packet_size b = next_size-size max (suc n) b s e in
    let long : length (take s (drop 12 b)) ≡ s = length-take-le s (drop 12 b) (omega (arith, whole, length-drop 12 b)) in
    let small_rest : AreFileBytes (drop 4 b) = λ i. rw (get_or-drop 4 b i 0) (small (4 + i)) in
    record {
      time = little_from-lt 0 8 (drop 4 b) small_rest;
      size = rw (long, is) (little_from-lt 0 4 b small);
      allowed = rw long (next_size-allowed max n b s e);
    }

fit_none : (h : Option IvfHead) (max : ℕ) (b : List ℕ) (r : Result (Option ℕ) FileFault) → next_size max 0 b ≡ r → AllPacketsFit max (cuts h max 0 b).packets
fit_none h max b (Err f) e = rw (cuts-fault h max 0 b f e) tt
fit_none h max b (Ok None) e = rw (cuts-stop h max 0 b e) tt
fit_none h max b (Ok (Some s)) e = absurd (none_whole max b s e)

fit_more : (h : Option IvfHead) (max n : ℕ) (b : List ℕ) (r : Result (Option ℕ) FileFault) → next_size max (suc n) b ≡ r → AreFileBytes b
    → ((c : List ℕ) → AreFileBytes c → AllPacketsFit max (cuts h max n c).packets)
    → AllPacketsFit max (cuts h max (suc n) b).packets
fit_more h max n b (Err f) e small later = rw (cuts-fault h max (suc n) b f e) tt
fit_more h max n b (Ok None) e small later = rw (cuts-stop h max (suc n) b e) tt
fit_more h max n b (Ok (Some s)) e small later =
    let small_rest : AreFileBytes (drop (12 + s) b) = λ i. rw (get_or-drop (12 + s) b i 0) (small (12 + s + i)) in
    rw (cuts-whole h max n b s e) (packet_fits max n s b small e, later (drop (12 + s) b) small_rest)

cuts-fit : (h : Option IvfHead) (max n : ℕ) (b : List ℕ) → AreFileBytes b → AllPacketsFit max (cuts h max n b).packets
cuts-fit h max zero b small = fit_none h max b (next_size max 0 b) refl
cuts-fit h max (suc n) b small = fit_more h max n b (next_size max (suc n) b) refl small (λ c s. cuts-fit h max n c s)

read_fits : (max n : ℕ) (b : List ℕ) (r : Result (Option IvfHead) FileFault) → next_head b ≡ r → AreFileBytes b → AllPacketsFit max (read_file max n b).packets
unfolding read_file
read_fits max n b (Err f) e small = rw e tt
read_fits max n b (Ok None) e small = rw e tt
read_fits max n b (Ok (Some h)) e small =
    let small_rest : AreFileBytes (drop 32 b) = λ i. rw (get_or-drop 32 b i 0) (small (32 + i)) in
    rw e (cuts-fit (Some h) max n (drop 32 b) small_rest)

pub cuts_what_fits : CutsWhatFits
cuts_what_fits max n b small = read_fits max n b (next_head b) refl small

-- faults

some_none : {A : Type 0} {B : Type 0} {x : A} → None ≡ Some x → B
some_none e = cc

faulty_zero : (l : ℕ) (f : FileFault) (r : Result (Option ℕ) FileFault) → cond (nat_lt l 12) (Ok None) (Err TooMany) ≡ r → r ≡ Err f → (f ≡ TooMany) × (12 ≤ l)
faulty_zero l f r e is = (grind (arith, nat_tests), grind (arith, nat_tests))

faulty_suc : (l max size : ℕ) (f : FileFault) (r : Result (Option ℕ) FileFault)
    → cond (nat_lt l 12) (Ok None) (cond (nat_lt max size) (Err PacketTooLarge) (cond (nat_lt l (12 + size)) (Ok None) (Ok (Some size)))) ≡ r
    → r ≡ Err f → (f ≡ PacketTooLarge) × (12 ≤ l) × (max < size)
faulty_suc l max size f r e is = (grind (arith, nat_tests), grind (arith, nat_tests), grind (arith, nat_tests))

-- a fault at the cut is shown by the bytes there
pub shows_next : (max n : ℕ) (b : List ℕ) (h : Option IvfHead) (f : FileFault) → next_size max n b ≡ Err f
    → ShowsFileFault f max (record { head = h; packets = []; left = n; fault = Some f; rest = b })
unfolding next_size
shows_next max zero b h f e =
    let is = faulty_zero (length b) f _ e refl in
    rw is.0 (refl, is.1)
shows_next max (suc n) b h f e =
    let is = faulty_suc (length b) max (packet_size b) f _ e refl in
    rw is.0 (omega arith, is.1, is.2)

pub shows_front : (f : FileFault) (max : ℕ) (front : List Packet) (r : Contents) → ShowsFileFault f max r → ShowsFileFault f max (with_prefix front r)
shows_front Signature max front r s = s
shows_front Codec max front r s = s
shows_front TooMany max front r s = s
shows_front PacketTooLarge max front r s = s
shows_front Torn max front r s = s
shows_front Ended max front r s = s

same_fault : (g f : FileFault) → Some g ≡ Some f → g ≡ f
same_fault g f e = cc

shows_none : (h : IvfHead) (max : ℕ) (b : List ℕ) (f : FileFault) (r : Result (Option ℕ) FileFault) → next_size max 0 b ≡ r
    → (cuts (Some h) max 0 b).fault ≡ Some f → ShowsFileFault f max (cuts (Some h) max 0 b)
shows_none h max b f (Err g) e met =
    let is = same_fault g f (rw (cuts-fault (Some h) max 0 b g e) at met) in
    rw (cuts-fault (Some h) max 0 b f (e ∙ ap Err is)) (shows_next max 0 b (Some h) f (e ∙ ap Err is))
shows_none h max b f (Ok None) e met = some_none (rw (cuts-stop (Some h) max 0 b e) at met)
shows_none h max b f (Ok (Some s)) e met = absurd (none_whole max b s e)

shows_more : (h : IvfHead) (max n : ℕ) (b : List ℕ) (f : FileFault) (r : Result (Option ℕ) FileFault) → next_size max (suc n) b ≡ r
    → ((c : List ℕ) → (cuts (Some h) max n c).fault ≡ Some f → ShowsFileFault f max (cuts (Some h) max n c))
    → (cuts (Some h) max (suc n) b).fault ≡ Some f → ShowsFileFault f max (cuts (Some h) max (suc n) b)
shows_more h max n b f (Err g) e later met =
    let is = same_fault g f (rw (cuts-fault (Some h) max (suc n) b g e) at met) in
    rw (cuts-fault (Some h) max (suc n) b f (e ∙ ap Err is)) (shows_next max (suc n) b (Some h) f (e ∙ ap Err is))
shows_more h max n b f (Ok None) e later met = some_none (rw (cuts-stop (Some h) max (suc n) b e) at met)
shows_more h max n b f (Ok (Some s)) e later met =
    let whole = cuts-whole (Some h) max n b s e in
    rw whole (shows_front f max (packet_at s b ∷ []) (cuts (Some h) max n (drop (12 + s) b)) (later (drop (12 + s) b) (rw whole at met)))

cuts-shows : (h : IvfHead) (max n : ℕ) (b : List ℕ) (f : FileFault) → (cuts (Some h) max n b).fault ≡ Some f → ShowsFileFault f max (cuts (Some h) max n b)
cuts-shows h max zero b f met = shows_none h max b f (next_size max 0 b) refl met
cuts-shows h max (suc n) b f met = shows_more h max n b f (next_size max (suc n) b) refl (λ c m. cuts-shows h max n c f m) met

-- the tests of a head, as numbers and bools
abbrev IsHeadFault : ℕ → Bool → Bool → FileFault → Type 0
IsHeadFault l a b Signature = (32 ≤ l) × (a ≡ false)
IsHeadFault l a b Codec = (32 ≤ l) × (a ≡ true) × (b ≡ false)
IsHeadFault l a b TooMany = ⊥
IsHeadFault l a b PacketTooLarge = ⊥
IsHeadFault l a b Torn = ⊥
IsHeadFault l a b Ended = ⊥

head_faulty : (l : ℕ) (a b : Bool) (h : IvfHead) (f : FileFault) (r : Result (Option IvfHead) FileFault)
    → cond (nat_lt l 32) (Ok None) (cond (not a) (Err Signature) (cond (not b) (Err Codec) (Ok (Some h)))) ≡ r
    → r ≡ Err f → IsHeadFault l a b f
head_faulty l false b h f r e is = let why : (f ≡ Signature) × (32 ≤ l) = (grind (arith, nat_tests), grind (arith, nat_tests)) in rw why.0 (why.1, refl)
head_faulty l true false h f r e is = let why : (f ≡ Codec) × (32 ≤ l) = (grind (arith, nat_tests), grind (arith, nat_tests)) in rw why.0 (why.1, refl, refl)
head_faulty l true true h f r e is = absurd (grind (arith, nat_tests))

pub head_shows : (max n : ℕ) (b : List ℕ) (f : FileFault) → IsHeadFault (length b) (starts_with nat_eq b (codes "DKIF")) (starts_with nat_eq (drop 8 b) (codes "VP80")) f → ShowsFileFault f max (stop None n (Some f) b)
head_shows max n b Signature s = s
head_shows max n b Codec s = s
head_shows max n b TooMany s = absurd s
head_shows max n b PacketTooLarge s = absurd s
head_shows max n b Torn s = s
head_shows max n b Ended s = s

pub next_head-fault : (b : List ℕ) (f : FileFault) → next_head b ≡ Err f → IsHeadFault (length b) (starts_with nat_eq b (codes "DKIF")) (starts_with nat_eq (drop 8 b) (codes "VP80")) f
unfolding next_head
next_head-fault b f e = head_faulty (length b) (starts_with nat_eq b (codes "DKIF")) (starts_with nat_eq (drop 8 b) (codes "VP80")) (parsed_ivf_head b) f _ e refl

read_shows : (max n : ℕ) (b : List ℕ) (f : FileFault) (r : Result (Option IvfHead) FileFault) → next_head b ≡ r
    → (read_file max n b).fault ≡ Some f → ShowsFileFault f max (read_file max n b)
unfolding read_file
read_shows max n b f (Err g) e met =
    let is = same_fault g f (rw e at met) in
    rw (e, is) (head_shows max n b f (next_head-fault b f (e ∙ ap Err is)))
read_shows max n b f (Ok None) e met = some_none (rw e at met)
read_shows max n b f (Ok (Some h)) e met = rw e (cuts-shows h max n (drop 32 b) f (rw e at met))

pub shows_faults : ShowsFaults
shows_faults max n b f met = read_shows max n b f (next_head b) refl met
