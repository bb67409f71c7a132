-- A file is checked, piece by piece.
use Rattle.std.proofs.Common.{◌≡◌, ◌⊎◌, ℕ, ◌+◌, ◌-◌, ◌^◌, ◌≤◌, Bool, true, false, List, [], ◌∷◌, ◌++◌, length, map, Option, Some, None, Result, Ok, Err, refl, sym, ap, subst, ◌∙◌, inl, inr, append_assoc, arith}
use Rattle.std.specs.Prelude.{IsSome}
use Rattle.std.specs.Result.{result_err}
use Rattle.std.specs.Io.KnownBytes.{IsAtEnd}
use Rattle.std.proofs.lemmas.List.{append-nil, length-append}
use Rattle.vp_base.specs.declared.limits.Limits.{Limits}
use Rattle.vp_base.specs.Counted.{HasRisenBy, one_more}
use Rattle.vp_base.proofs.CallLemmas.{risen_by_one_more}
use Rattle.vp_ivf.specs.declared.packet.IvfHead.{IvfHead}
use Rattle.vp_ivf.specs.declared.packet.Packet.{Packet}
use Rattle.vp_ivf.specs.declared.fault.FileFault.{FileFault}
use Rattle.vp_ivf.specs.declared.fault.FileFault.TheVariants.{Torn}
use Rattle.vp_ivf.specs.Ivf.{Contents, read_from, resume, resume_at, with_prefix}
use Rattle.vp_ivf.specs.Reader.{ReaderState, finish_answer, initial_reader, refusal, refusal_at}
use Rattle.vp_ivf.proofs.Append.{read-append}
use Rattle.vp_ivf.proofs.Cuts.{with_prefix-front}
use Rattle.vp_ivf.proofs.Stands.{settled_first}
use Rattle.vp_check.specs.declared.checked.CheckedPacket.{CheckedPacket}
use Rattle.vp_decode.specs.Step.{DecoderState, step, outcome}
use Rattle.vp_stream.specs.declared.fault.SurveyFault.{SurveyFault}
use Rattle.vp_stream.specs.declared.fault.SurveyFault.TheVariants.{Device, ReadTurns, Memory}
use Rattle.vp_stream.specs.Answers.{reading_of, answers_from}
use Rattle.vp_stream.specs.PacketReader.{ending}
use Rattle.vp_stream.proofs.CountLemmas.{fault-read}
use Rattle.vp_check.specs.Checks.{check_of, checks_from}
use Rattle.vp_check.specs.Checking.{PacketChecker, before_packets, after_packet, after_packets, ReadsPiece, IsWholeChecked, EndsChecking}

-- ---- packets, one after another

pub after_more : (c : PacketChecker) (ps qs : List Packet) → after_packets c (ps ++ qs) ≡ after_packets (after_packets c ps) qs
after_more c [] qs = refl
after_more c (p ∷ ps) qs = after_more (after_packet c p.bytes) ps qs

pub checks_after : (c : PacketChecker) (ps : List Packet) → (after_packets c ps).checks ≡ c.checks ++ checks_from c.limits c.state ps
checks_after c [] = sym (append-nil c.checks)
checks_after c (p ∷ ps) =
    checks_after (after_packet c p.bytes) ps
    ∙ append_assoc c.checks (check_of c.limits c.state p.bytes ∷ []) (checks_from c.limits (step c.limits c.state p.bytes).0 ps)

pub outcomes_from : (limits : Limits) (state : Option DecoderState) (ps : List Packet)
    → map (λ (c : CheckedPacket). c.outcome) (checks_from limits state ps) ≡ map outcome (answers_from limits state ps)
outcomes_from limits state [] = refl
outcomes_from limits state (p ∷ ps) = ap (λ os. outcome (step limits state p.bytes).1 ∷ os) (outcomes_from limits (step limits state p.bytes).0 ps)

-- ---- the file so far

-- these bytes were read, at least one for each turn, and no fault was met; these packets were checked
pub record IsChecking (limits : Limits) (file : ReaderState) (c : PacketChecker) (turn : ℕ) (fed : List ℕ) : Type 0 where
  pub given : List Packet
  pub max : file.max ≡ limits.packet_bytes
  pub reading : reading_of limits fed ≡ with_prefix given file.reading
  pub waiting : file.reading.packets ≡ []
  pub unended : file.ended ≡ false
  pub calm : file.reading.fault ≡ None
  pub run : c ≡ after_packets (before_packets limits) given
  pub turns : turn ≤ length fed

pub checks_first : (limits : Limits) (file : ReaderState) (c : PacketChecker) → file ≡ initial_reader limits.packet_bytes limits.packets → c ≡ before_packets limits
    → IsChecking limits file c 0 []
checks_first limits file c is fresh = record {
  given = [];
  max = ap (λ (f : ReaderState). f.max) is;
  reading = settled_first limits.packet_bytes limits.packets ∙ ap (λ (f : ReaderState). f.reading) (sym is);
  waiting = ap (λ (f : ReaderState). f.reading.packets) is;
  unended = ap (λ (f : ReaderState). f.ended) is;
  calm = ap (λ (f : ReaderState). f.reading.fault) is;
  run = fresh;
  turns = omega arith;
}

refused_by : (f : Option FileFault) (ended : Bool) → f ≡ None → ended ≡ false → refusal_at f ended ≡ None
refused_by f ended calm unended = rw (calm, unended) refl

pub unrefused : (limits : Limits) (file : ReaderState) (c : PacketChecker) (turn : ℕ) (fed : List ℕ) → IsChecking limits file c turn fed → refusal file ≡ None
unrefused limits file c turn fed h = refused_by file.reading.fault file.ended h.calm h.unended

-- ---- a piece

given_resume : (given : List Packet) (f : Option FileFault) (max : ℕ) (r : Contents) (piece : List ℕ)
    → with_prefix given (resume_at f max r piece) ≡ resume_at f max (with_prefix given r) piece
given_resume given None max r piece = with_prefix-front given r.packets (read_from r.head max r.left (r.rest ++ piece))
given_resume given (Some f) max r piece = refl

-- the reader after a piece, before its packets are taken
resumed : (limits : Limits) (old mid : ReaderState) (c : PacketChecker) (turn : ℕ) (fed piece : List ℕ) (h : IsChecking limits old c turn fed)
    → mid ≡ record old { reading = resume old.max old.reading piece } → reading_of limits (fed ++ piece) ≡ with_prefix h.given mid.reading
resumed limits old mid c turn fed piece h is =
    read-append limits.packet_bytes limits.packets fed piece
    ∙ (ap (λ (r : Contents). resume limits.packet_bytes r piece) h.reading
    ∙ (sym (given_resume h.given old.reading.fault limits.packet_bytes old.reading piece)
    ∙ (ap (λ (m : ℕ). with_prefix h.given (resume m old.reading piece)) (sym h.max)
    ∙ ap (λ (f : ReaderState). with_prefix h.given f.reading) (sym is))))

-- the reader after its packets are taken
abbrev pub Empties : ReaderState → ReaderState → Type 0
Empties mid new = new ≡ record mid { reading = record mid.reading { packets = [] } }

taken_all : (given : List Packet) (mid new : ReaderState) → Empties mid new → with_prefix given mid.reading ≡ with_prefix (given ++ mid.reading.packets) new.reading
taken_all given mid new is =
    ap (λ (ps : List Packet). record mid.reading { packets = ps }) (sym (append-nil (given ++ mid.reading.packets)))
    ∙ ap (λ (f : ReaderState). with_prefix (given ++ mid.reading.packets) f.reading) (sym is)

run_on : (limits : Limits) (given ps : List Packet) (c next : PacketChecker) → c ≡ after_packets (before_packets limits) given → next ≡ after_packets c ps
    → next ≡ after_packets (before_packets limits) (given ++ ps)
run_on limits given ps c next is step = step ∙ (ap (λ (x : PacketChecker). after_packets x ps) is ∙ sym (after_more (before_packets limits) given ps))

differ : {A : Type 0} → true ≡ false → A
differ e = cc

pub checks_on : (limits : Limits) (old mid new : ReaderState) (c next : PacketChecker) (turn : ℕ) (fed piece : List ℕ) (left : Option (List ℕ)) (b : Bool) → b ≡ true
    → IsChecking limits old c turn fed → ReadsPiece (Ok b) old mid piece left → next ≡ after_packets c mid.reading.packets → Empties mid new
    → IsChecking limits new next (turn + 1) (fed ++ piece)
checks_on limits old mid new c next turn fed piece left false is h f step taken = differ (sym is)
checks_on limits old mid new c next turn fed piece left true is h (some, fed_is, calm) step taken =
    let most = h.turns in
    record {
      given = h.given ++ mid.reading.packets;
      max = ap (λ (f : ReaderState). f.max) taken ∙ (ap (λ (f : ReaderState). f.max) fed_is ∙ h.max);
      reading = resumed limits old mid c turn fed piece h fed_is ∙ taken_all h.given mid new taken;
      waiting = ap (λ (f : ReaderState). f.reading.packets) taken;
      unended = ap (λ (f : ReaderState). f.ended) taken ∙ (ap (λ (f : ReaderState). f.ended) fed_is ∙ h.unended);
      calm = ap (λ (f : ReaderState). f.reading.fault) taken ∙ calm;
      run = run_on limits h.given mid.reading.packets c next h.run step;
      turns = omega (arith, length-append fed piece);
    }

-- ---- the end

ending_err : (r : Result (Unit {0}) FileFault) → r ≡ ending (result_err r)
ending_err (Ok u) = refl
ending_err (Err f) = refl

none_met : (r : Contents) (f : Option FileFault) → r.fault ≡ f → IsSome f → result_err (finish_answer r) ≡ None → ⊥
none_met r None e some is = cc
none_met r (Some g) e some is = let now : Some g ≡ None = rw e at is in cc

torn_met : (r : Contents) (f : Option FileFault) → r.fault ≡ f → IsSome f → result_err (finish_answer r) ≡ Some Torn → r.fault ≡ Some Torn
torn_met r None e some is = absurd cc
torn_met r (Some g) e some is = let now : Some g ≡ Some Torn = rw e at is in e ∙ now

-- all packets are checked; the reader is at its end, or the file has a fault
whole : (limits : Limits) (given : List Packet) (mid new : ReaderState) (c next : PacketChecker) (file : List ℕ) (left : Option (List ℕ)) (head : Option IvfHead) (fault : Option FileFault)
    → reading_of limits file ≡ with_prefix given mid.reading → c ≡ after_packets (before_packets limits) given → next ≡ after_packets c mid.reading.packets
    → Empties mid new → head ≡ new.reading.head → fault ≡ result_err (finish_answer new.reading) → IsAtEnd left ⊎ IsSome mid.reading.fault
    → IsWholeChecked limits head fault next file left
whole limits given mid new c next file left head fault reading run step taken heads is at =
    let told : fault ≡ result_err (finish_answer mid.reading) = is ∙ ap (λ (f : ReaderState). result_err (finish_answer f.reading)) taken in
    let run_all = run_on limits given mid.reading.packets c next run step in
    let met : IsSome mid.reading.fault → fault ≡ Some Torn → mid.reading.fault ≡ Some Torn = λ some e. torn_met mid.reading mid.reading.fault refl some (sym told ∙ e) in
    record {
      head_is = heads ∙ (ap (λ (f : ReaderState). f.reading.head) taken ∙ sym (ap (λ (r : Contents). r.head) reading));
      checks = ap (λ (x : PacketChecker). x.checks) run_all
          ∙ (checks_after (before_packets limits) (given ++ mid.reading.packets)
          ∙ ap (λ (r : Contents). checks_from limits None r.packets) (sym reading));
      answer = ap finish_answer reading ∙ (ending_err (finish_answer mid.reading) ∙ ap ending (sym told));
      good = λ e. elim at [
        | inl end ↦ end
        | inr some ↦ absurd (none_met mid.reading mid.reading.fault refl some (sym told ∙ e))
      ];
      torn = λ e. elim at [
        | inl end ↦ end
        | inr some ↦ absurd (fault-read limits.packet_bytes limits.packets file (ap (λ (r : Contents). r.fault) reading ∙ met some e))
      ];
    }

pub ends : (limits : Limits) (old mid new : ReaderState) (c next : PacketChecker) (turn : ℕ) (fed piece : List ℕ) (left : Option (List ℕ)) (b : Bool) (head : Option IvfHead) (fault : Option FileFault)
    → b ≡ false → IsChecking limits old c turn fed → ReadsPiece (Ok b) old mid piece left → next ≡ after_packets c mid.reading.packets → Empties mid new
    → head ≡ new.reading.head → fault ≡ result_err (finish_answer new.reading) → IsWholeChecked limits head fault next (fed ++ piece) left
ends limits old mid new c next turn fed piece left true head fault is h f step taken heads told = differ is
ends limits old mid new c next turn fed piece left false head fault is h (inl (none, kept, end)) step taken heads told =
    let reading : reading_of limits (fed ++ piece) ≡ with_prefix h.given mid.reading =
    ap (reading_of limits) (ap (λ xs. fed ++ xs) none ∙ append-nil fed)
    ∙ (h.reading ∙ ap (λ (f : ReaderState). with_prefix h.given f.reading) (sym kept)) in
    whole limits h.given mid new c next (fed ++ piece) left head fault reading h.run step taken heads told (inl end)
ends limits old mid new c next turn fed piece left false head fault is h (inr (fed_is, met)) step taken heads told =
    whole limits h.given mid new c next (fed ++ piece) left head fault (resumed limits old mid c turn fed piece h fed_is) h.run step taken heads told (inr met)

pub stops : (limits : Limits) (f : SurveyFault) (old mid : ReaderState) (c : PacketChecker) (file piece : List ℕ) (left : Option (List ℕ)) → ReadsPiece (Err f) old mid piece left
    → EndsChecking limits (Err f) c file left
stops limits Device old mid c file piece left h = tt
stops limits ReadTurns old mid c file piece left h = absurd (h refl)
stops limits Memory old mid c file piece left h = tt

-- ---- the number of reads

risen_at_most : (n old new : ℕ) → HasRisenBy n old new → new ≤ old + n
risen_at_most n old new (inl e) = omega arith
risen_at_most n old new (inr e) =
    let first = e.0 in
    let second = e.1 in
    omega arith

pub few_reads : (n old new : ℕ) → n ≤ 2 ^ 32 - 1 → HasRisenBy n old new → new ≤ old + (2 ^ 32 - 1)
few_reads n old new le h = let most = risen_at_most n old new h in omega arith

pub one_read : (n old now new : ℕ) → HasRisenBy n old now → new ≡ one_more now → HasRisenBy (n + 1) old new
one_read n old now new h rose = subst (λ (k : ℕ). HasRisenBy (n + 1) old k) (sym rose) (risen_by_one_more n old now h)
