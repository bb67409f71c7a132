-- A file is read on, and its packets are given.
use Rattle.std.proofs.Common.{◌≡◌, ℕ, ◌<◌, Bool, true, false, List, [], ◌∷◌, ◌++◌, length, drop, Option, Some, None, Result, Ok, Err, refl, sym, ap, subst, ◌∙◌, append_assoc, arith}
use Rattle.std.specs.Prelude.{slice_get}
use Rattle.std.specs.Result.{result_err}
use Rattle.std.specs.Io.KnownBytes.{Consumes, IsAtEnd}
use Rattle.std.proofs.KnownBytes.{Consumes-trans}
use Rattle.std.proofs.lemmas.List.{append-nil, length-append}
use Rattle.vp_base.specs.declared.limits.Limits.{Limits}
use Rattle.vp_ivf.specs.declared.packet.Packet.{Packet}
use Rattle.vp_ivf.specs.declared.packet.IvfHead.{IvfHead}
use Rattle.vp_ivf.specs.declared.fault.FileFault.{FileFault}
use Rattle.vp_ivf.specs.Ivf.{Contents, next_head, cuts, read_file, read_from, resume, resume_at, with_prefix, stop}
use Rattle.vp_ivf.specs.Reader.{ReaderState, refusal, refusal_at, without_packets, finish_answer, finish_by, is_torn}
use Rattle.vp_ivf.proofs.Append.{read-append}
use Rattle.vp_ivf.proofs.Cuts.{with_prefix-front}
use Rattle.vp_ivf.proofs.Few.{cuts-head}
use Rattle.vp_ivf.proofs.Growing.{keeps_packets}
use Rattle.vp_ivf.proofs.Stands.{settled_first}
use Rattle.vp_stream.specs.declared.fault.SurveyFault.{SurveyFault}
use Rattle.vp_stream.specs.declared.fault.SurveyFault.TheVariants.{Device, ReadTurns, Memory}
use Rattle.vp_stream.specs.Answers.{reading_of}
use Rattle.vp_stream.specs.PacketReader.{PacketReader, IsReading, IsStoppedBy, Took, before_first_read, headed, next_waiting, without_front, without_next, resumed, ending, EndsReading, IsFront, AreGivenAt}
use Rattle.vp_stream.proofs.CountLemmas.{fault-read}

-- ---- before the first read

pub at_start : (limits : Limits) → IsReading limits (before_first_read limits) [] []
at_start limits =
    let nothing : reading_of limits [] ≡ stop None limits.packets None [] = settled_first limits.packet_bytes limits.packets in
    record { max = refl; reading = nothing; unended = refl; turns = omega arith }

-- ---- a piece more

given-resume : (given : List Packet) (f : Option FileFault) (max : ℕ) (r : Contents) (piece : List ℕ)
    → with_prefix given (resume_at f max r piece) ≡ resume_at f max (with_prefix given r) piece
given-resume given None max r piece = with_prefix-front given r.packets (read_from r.head max r.left (r.rest ++ piece))
given-resume given (Some f) max r piece = refl

pub read_on : (limits : Limits) (s : PacketReader) (fed piece : List ℕ) (given : List Packet)
    → IsReading limits s fed given → 0 < length piece → 0 < s.turns → IsReading limits (resumed s piece) (fed ++ piece) given
read_on limits s fed piece given h some left = record {
  max = h.max;
  reading = read-append limits.packet_bytes limits.packets fed piece
      ∙ (ap (λ (r : Contents). resume limits.packet_bytes r piece) h.reading
      ∙ (sym (given-resume given s.file.reading.fault limits.packet_bytes s.file.reading piece)
      ∙ ap (λ (m : ℕ). with_prefix given (resume m s.file.reading piece)) (sym h.max)));
  unended = h.unended;
  turns = let old = h.turns in let both = length-append fed piece in omega arith;
}

-- ---- the packet in front

abbrev head_in : IvfHead → Option (IvfHead × Packet) → IvfHead
head_in other None = other
head_in other (Some x) = x.0

abbrev packet_in : Packet → Option (IvfHead × Packet) → Packet
packet_in other None = other
packet_in other (Some x) = x.1

headed_head : (h : Option IvfHead) (ps : List Packet) (head : IvfHead) (packet : Packet) → headed h (slice_get ps 0) ≡ Some (head, packet) → h ≡ Some head
headed_head None ps head packet e = cc
headed_head (Some h) [] head packet e = cc
headed_head (Some h) (p ∷ ps) head packet e = ap Some (ap (head_in h) e)

headed_packets : (h : Option IvfHead) (ps : List Packet) (head : IvfHead) (packet : Packet) → headed h (slice_get ps 0) ≡ Some (head, packet) → ps ≡ packet ∷ drop 1 ps
headed_packets None ps head packet e = cc
headed_packets (Some h) [] head packet e = cc
headed_packets (Some h) (p ∷ ps) head packet e = ap (λ (q : Packet). q ∷ ps) (ap (packet_in p) e)

taken_from : (h : Option IvfHead) (head : IvfHead) (file : ReaderState) → h ≡ Some head → without_front h file ≡ record file { reading = without_packets 1 file.reading }
taken_from None head file e = cc
taken_from (Some k) head file e = refl

pub taken : (limits : Limits) (s : PacketReader) (fed : List ℕ) (given : List Packet) (head : IvfHead) (packet : Packet)
    → IsReading limits s fed given → next_waiting s ≡ Some (head, packet)
    → IsReading limits (without_next s) fed (given ++ packet ∷ []) × ((reading_of limits fed).head ≡ Some head)
taken limits s fed given head packet h e =
    let known = headed_head s.file.reading.head s.file.reading.packets head packet e in
    let split = headed_packets s.file.reading.head s.file.reading.packets head packet e in
    let rest = taken_from s.file.reading.head head s.file known in
    let packets : given ++ s.file.reading.packets ≡ (given ++ packet ∷ []) ++ drop 1 s.file.reading.packets =
    ap (λ (ps : List Packet). given ++ ps) split ∙ sym (append_assoc given (packet ∷ []) (drop 1 s.file.reading.packets)) in (
      record {
        max = ap (λ (f : ReaderState). f.max) rest ∙ h.max;
        reading = h.reading ∙ (ap (λ (ps : List Packet). record s.file.reading { packets = ps }) packets
            ∙ ap (λ (f : ReaderState). with_prefix (given ++ packet ∷ []) f.reading) (sym rest));
        unended = ap (λ (f : ReaderState). f.ended) rest ∙ h.unended;
        turns = h.turns;
      },
      ap (λ (r : Contents). r.head) h.reading ∙ known,
    )

-- ---- no packet is in front

headless_head : (max n : ℕ) (b : List ℕ) (r : Result (Option IvfHead) FileFault) → next_head b ≡ r → (read_file max n b).head ≡ None → (read_file max n b).packets ≡ []
unfolding read_file
headless_head max n b (Err f) e t = rw e refl
headless_head max n b (Ok None) e t = rw e refl
headless_head max n b (Ok (Some h)) e t =
    let is : (cuts (Some h) max n (drop 32 b)).head ≡ None = rw e at t in
    let clash : Some h ≡ None = sym (cuts-head (Some h) max n (drop 32 b)) ∙ is in
    cc

-- before the head no packet is known
pub headless : (limits : Limits) (file : List ℕ) → (reading_of limits file).head ≡ None → (reading_of limits file).packets ≡ []
headless limits file e = headless_head limits.packet_bytes limits.packets file (next_head file) refl e

none_first : (ps : List Packet) (head : IvfHead) → headed (Some head) (slice_get ps 0) ≡ None → ps ≡ []
none_first [] head e = refl
none_first (p ∷ ps) head e = cc

nil_behind : (given ps : List Packet) → given ++ ps ≡ [] → ps ≡ []
nil_behind [] ps e = e
nil_behind (p ∷ given) ps e = cc

none_by : (h : Option IvfHead) (given ps : List Packet) → (h ≡ None → given ++ ps ≡ []) → headed h (slice_get ps 0) ≡ None → ps ≡ []
none_by None given ps none e = nil_behind given ps (none refl)
none_by (Some head) given ps none e = none_first ps head e

-- all packets were given
pub none_waiting : (limits : Limits) (s : PacketReader) (fed : List ℕ) (given : List Packet)
    → IsReading limits s fed given → next_waiting s ≡ None → s.file.reading.packets ≡ []
none_waiting limits s fed given h e =
    none_by s.file.reading.head given s.file.reading.packets
    (λ none. ap (λ (r : Contents). r.packets) (sym h.reading) ∙ headless limits fed (ap (λ (r : Contents). r.head) h.reading ∙ none)) e

same_front : (h : Option IvfHead) (file : ReaderState) → headed h (slice_get file.reading.packets 0) ≡ None → without_front h file ≡ file
same_front None file e = refl
same_front (Some head) file e =
    let none = none_first file.reading.packets head e in
    ap (λ (ps : List Packet). record file { reading = record file.reading { packets = ps } }) (ap (drop 1) none ∙ sym none)

-- and nothing changes
pub same_incoming : (s : PacketReader) → next_waiting s ≡ None → without_next s ≡ s
same_incoming s e = ap (λ (f : ReaderState). record s { file = f }) (same_front s.file.reading.head s.file e)

-- ---- the end

refused_by : (f : Option FileFault) (ended : Bool) (fault : FileFault) → ended ≡ false → refusal_at f ended ≡ Some fault → f ≡ Some fault
refused_by (Some g) ended fault e is = is
refused_by None true fault e is = cc
refused_by None false fault e is = cc

faulty_end : (f : Option FileFault) (torn : Bool) (fault : FileFault) → f ≡ Some fault → finish_by f torn ≡ Err fault
faulty_end f torn fault e = rw e refl

-- the file's packets were all given, and a fault was met behind them
pub ends_faulty : (limits : Limits) (s : PacketReader) (left : Option (List ℕ)) (fed : List ℕ) (given : List Packet) (fault : FileFault)
    → IsReading limits s fed given → s.file.reading.packets ≡ [] → refusal s.file ≡ Some fault → EndsReading limits s left fed given (Some fault)
ends_faulty limits s left fed given fault h none is =
    let met = refused_by s.file.reading.fault s.file.ended fault h.unended is in record {
      packets = ap (λ (r : Contents). r.packets) h.reading ∙ (ap (λ (ps : List Packet). given ++ ps) none ∙ append-nil given);
      answer = ap finish_answer h.reading ∙ faulty_end s.file.reading.fault (is_torn s.file.reading.head s.file.reading.rest) fault met;
      head = sym (ap (λ (r : Contents). r.head) h.reading);
      good = λ e. cc;
      torn = λ e. absurd (fault-read limits.packet_bytes limits.packets fed (ap (λ (r : Contents). r.fault) h.reading ∙ (met ∙ e)));
    }

ending_err : (r : Result (Unit {0}) FileFault) → r ≡ ending (result_err r)
ending_err (Ok u) = refl
ending_err (Err f) = refl

-- the reader's end is the file's
pub ends_well : (limits : Limits) (s last : PacketReader) (left : Option (List ℕ)) (fed : List ℕ) (given : List Packet) (fault : Option FileFault)
    → IsReading limits s fed given → s.file.reading.packets ≡ [] → IsAtEnd left
    → last.file.reading ≡ s.file.reading → fault ≡ result_err (finish_answer s.file.reading) → EndsReading limits last left fed given fault
ends_well limits s last left fed given fault h none at_end same is = record {
  packets = ap (λ (r : Contents). r.packets) h.reading ∙ (ap (λ (ps : List Packet). given ++ ps) none ∙ append-nil given);
  answer = ap finish_answer h.reading ∙ (ending_err (finish_answer s.file.reading) ∙ ap ending (sym is));
  head = ap (λ (r : Contents). r.head) same ∙ sym (ap (λ (r : Contents). r.head) h.reading);
  good = λ e. at_end;
  torn = λ e. at_end;
}

-- the packets that were given are the file's first ones, however it goes on
pub still_front : (limits : Limits) (s : PacketReader) (fed more : List ℕ) (given : List Packet) → IsReading limits s fed given → IsFront limits (fed ++ more) given
still_front limits s fed more given h =
    let later = keeps_packets limits.packet_bytes limits.packets fed more in (
      s.file.reading.packets ++ later.0,
      later.1 ∙ (ap (λ (r : Contents). r.packets ++ later.0) h.reading ∙ append_assoc given s.file.reading.packets later.0),
    )

-- ---- one turn of reading

-- where nothing more was read, all packets of the file were given
given_all : (limits : Limits) (s : PacketReader) (fed piece : List ℕ) (given : List Packet) → IsReading limits s fed given → s.file.reading.packets ≡ []
    → piece ≡ [] → (reading_of limits (fed ++ piece)).packets ≡ given
given_all limits s fed piece given h none nothing =
    ap (λ (xs : List ℕ). (reading_of limits xs).packets) (ap (λ (xs : List ℕ). fed ++ xs) nothing ∙ append-nil fed)
    ∙ (ap (λ (r : Contents). r.packets) h.reading ∙ (ap (λ (ps : List Packet). given ++ ps) none ∙ append-nil given))

given_at : (f : SurveyFault) (limits : Limits) (old new : PacketReader) (left : Option (List ℕ)) (fed piece : List ℕ) (given : List Packet)
    → IsReading limits old fed given → old.file.reading.packets ≡ [] → Took (Err f) old new left piece → AreGivenAt f limits (fed ++ piece) given
given_at Device limits old new left fed piece given h none t = given_all limits old fed piece given h none t
given_at ReadTurns limits old new left fed piece given h none t = given_all limits old fed piece given h none t.0
given_at Memory limits old new left fed piece given h none t = still_front limits old fed piece given h

stopped_by : (f : SurveyFault) (limits : Limits) (old new : PacketReader) (left : Option (List ℕ)) (fed piece : List ℕ) (given : List Packet)
    → IsReading limits old fed given → Took (Err f) old new left piece → IsStoppedBy f (fed ++ piece)
stopped_by Device limits old new left fed piece given h t = tt
stopped_by ReadTurns limits old new left fed piece given h t = let some = h.turns in let over = t.1 in let both = length-append fed piece in omega arith
stopped_by Memory limits old new left fed piece given h t = tt

took_none : (b : Bool) (old new : PacketReader) (left : Option (List ℕ)) (piece : List ℕ) → b ≡ false → Took (Ok b) old new left piece → (piece ≡ []) × IsAtEnd left × (new ≡ old)
took_none true old new left piece e t = cc
took_none false old new left piece e t = t

pub took_some : (b : Bool) (old new : PacketReader) (left : Option (List ℕ)) (piece : List ℕ) → b ≡ true → Took (Ok b) old new left piece → (0 < length piece) × (0 < old.turns) × (new ≡ resumed old piece)
took_some true old new left piece e t = t
took_some false old new left piece e t = cc

module _ (first s same : PacketReader) (r0 r : Option (List ℕ))
    (inv : (limits : Limits) (fed : List ℕ) (given : List Packet) → IsReading limits first fed given
    → (more : List ℕ) × Consumes r0 r more × IsReading limits s (fed ++ more) given)
    (none : next_waiting s ≡ None) (is : same ≡ without_next s) where
  here : (limits : Limits) (fed : List ℕ) (given : List Packet) → IsReading limits first fed given
      → (more : List ℕ) × Consumes r0 r more × IsReading limits same (fed ++ more) given × (same.file.reading.packets ≡ [])
  here limits fed given h =
      let now = inv limits fed given h in
      let e : same ≡ s = is ∙ same_incoming s none in (
        now.0,
        now.1,
        subst (λ (z : PacketReader). IsReading limits z (fed ++ now.0) given) (sym e) now.2,
        ap (λ (z : PacketReader). z.file.reading.packets) e ∙ none_waiting limits s (fed ++ now.0) given now.2 none,
      )

  pub next_refused : (fault : FileFault) → refusal same.file ≡ Some fault
      → (limits : Limits) (fed : List ℕ) (given : List Packet) → IsReading limits first fed given
      → (more : List ℕ) × Consumes r0 r more × EndsReading limits same r (fed ++ more) given (Some fault)
  next_refused fault met limits fed given h =
      let now = here limits fed given h in
      (now.0, now.1, ends_faulty limits same r (fed ++ now.0) given fault now.2 now.3 met)

  pub next_failed : (new : PacketReader) (r2 : Option (List ℕ)) (f : SurveyFault) → (piece : List ℕ) × Consumes r r2 piece × Took (Err f) same new r2 piece
      → (limits : Limits) (fed : List ℕ) (given : List Packet) → IsReading limits first fed given
      → (more : List ℕ) × Consumes r0 r2 more × (IsStoppedBy f (fed ++ more) × AreGivenAt f limits (fed ++ more) given)
  next_failed new r2 f took limits fed given h =
      let now = here limits fed given h in
      let files = append_assoc fed now.0 took.0 in (
        now.0 ++ took.0,
        Consumes-trans r0 r r2 now.0 took.0 now.1 took.1,
        (
          subst (λ (file : List ℕ). IsStoppedBy f file) files (stopped_by f limits same new r2 (fed ++ now.0) took.0 given now.2 took.2),
          subst (λ (file : List ℕ). AreGivenAt f limits file given) files (given_at f limits same new r2 (fed ++ now.0) took.0 given now.2 now.3 took.2),
        ),
      )

  pub next_ended : (new last : PacketReader) (r2 : Option (List ℕ)) (b : Bool) (fault : Option FileFault) → b ≡ false
      → (piece : List ℕ) × Consumes r r2 piece × Took (Ok b) same new r2 piece
      → last.file.reading ≡ new.file.reading → fault ≡ result_err (finish_answer new.file.reading)
      → (limits : Limits) (fed : List ℕ) (given : List Packet) → IsReading limits first fed given
      → (more : List ℕ) × Consumes r0 r2 more × EndsReading limits last r2 (fed ++ more) given fault
  next_ended new last r2 b fault never took kept answer limits fed given h =
      let now = here limits fed given h in
      let parts = took_none b same new r2 took.0 never took.2 in
      let nothing = subst (λ (piece : List ℕ). Consumes r r2 piece) parts.0 took.1 in (
        now.0,
        subst (λ (xs : List ℕ). Consumes r0 r2 xs) (append-nil now.0) (Consumes-trans r0 r r2 now.0 [] now.1 nothing),
        ends_well limits same last r2 (fed ++ now.0) given fault now.2 now.3 parts.1
            (kept ∙ ap (λ (z : PacketReader). z.file.reading) parts.2)
            (answer ∙ ap (λ (z : PacketReader). result_err (finish_answer z.file.reading)) parts.2),
      )

  pub next_read : (new : PacketReader) (r2 : Option (List ℕ)) (b : Bool) → b ≡ true
      → (piece : List ℕ) × Consumes r r2 piece × Took (Ok b) same new r2 piece
      → (limits : Limits) (fed : List ℕ) (given : List Packet) → IsReading limits first fed given
      → (more : List ℕ) × Consumes r0 r2 more × IsReading limits new (fed ++ more) given
  next_read new r2 b always took limits fed given h =
      let now = here limits fed given h in
      let parts = took_some b same new r2 took.0 always took.2 in
      let on = read_on limits same (fed ++ now.0) took.0 given now.2 parts.0 parts.1 in (
        now.0 ++ took.0,
        Consumes-trans r0 r r2 now.0 took.0 now.1 took.1,
        subst (λ (file : List ℕ). IsReading limits new file given) (append_assoc fed now.0 took.0)
            (subst (λ (z : PacketReader). IsReading limits z ((fed ++ now.0) ++ took.0) given) (sym parts.2) on),
      )
