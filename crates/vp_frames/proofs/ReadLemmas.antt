-- A file is read into a stream.
use Rattle.std.proofs.Common.{◌≡◌, ◌⊎◌, ℕ, ◌+◌, ◌-◌, ◌^◌, ◌≤◌, Bool, true, false, List, [], ◌++◌, length, Option, Some, None, Result, Ok, Err, refl, sym, ap, subst, ◌∙◌, inl, inr, arith}
use Rattle.std.specs.Prelude.{IsSome}
use Rattle.std.specs.Result.{result_err}
use Rattle.std.specs.Io.KnownBytes.{IsAtEnd}
use Rattle.std.proofs.lemmas.List.{append-nil, length-append}
use Rattle.vp_base.specs.declared.limits.Limits.{Limits}
use Rattle.vp_base.specs.Counted.{HasRisenBy, one_more}
use Rattle.vp_base.proofs.CallLemmas.{risen_by_one_more}
use Rattle.vp_ivf.specs.declared.fault.FileFault.{FileFault}
use Rattle.vp_ivf.specs.declared.fault.FileFault.TheVariants.{Torn}
use Rattle.vp_ivf.specs.Ivf.{Contents}
use Rattle.vp_ivf.specs.Reader.{finish_answer, refusal_at}
use Rattle.vp_stream.specs.declared.fault.SurveyFault.{SurveyFault}
use Rattle.vp_stream.specs.declared.fault.SurveyFault.TheVariants.{Device, ReadTurns, Memory}
use Rattle.vp_stream.specs.Answers.{reading_of}
use Rattle.vp_stream.specs.PacketReader.{ending}
use Rattle.vp_stream.specs.Stream.{Stream, StreamHistory, IsStreamAfter, initial_stream, after_piece, stream_refusal}
use Rattle.vp_stream.proofs.CountLemmas.{fault-read}
use Rattle.vp_stream.proofs.IncomingLemmas.{at_start}
use Rattle.vp_stream.proofs.KeptLemmas.{stands_on}
use Rattle.vp_frames.specs.Reading.{ReadsPiece, IsFileRead, ReadsFile}

-- the history of a stream that was fed these bytes, and not ended
abbrev pub fed_only : List ℕ → StreamHistory
fed_only fed = record { fed = fed; ended = false }

-- these bytes were read and fed, at least one for each turn, and no fault was met
pub record IsFeeding (limits : Limits) (stream : Stream) (turn : ℕ) (fed : List ℕ) : Type 0 where
  pub limits_are : stream.limits ≡ limits
  pub stands : IsStreamAfter stream (fed_only fed)
  pub calm : stream.reading.fault ≡ None
  pub turns : turn ≤ length fed

refused_by : (f : Option FileFault) (ended : Bool) → f ≡ None → ended ≡ false → refusal_at f ended ≡ None
refused_by f ended calm unended = rw (calm, unended) refl

pub unrefused : (limits : Limits) (stream : Stream) (turn : ℕ) (fed : List ℕ) → IsFeeding limits stream turn fed → stream_refusal stream ≡ None
unrefused limits stream turn fed h = refused_by stream.reading.fault stream.ended h.calm h.stands.ended

-- ---- a piece

stands_next : (limits : Limits) (old new : Stream) (turn : ℕ) (fed piece : List ℕ) → IsFeeding limits old turn fed → new ≡ after_piece old piece
    → IsStreamAfter new (fed_only (fed ++ piece)) × (new.limits ≡ limits)
stands_next limits old new turn fed piece h is = (stands_on old new (fed_only fed) piece is h.stands, ap (λ (s : Stream). s.limits) is ∙ h.limits_are)

differ : {A : Type 0} → true ≡ false → A
differ e = cc

pub feeds_on : (limits : Limits) (old new : Stream) (turn : ℕ) (fed piece : List ℕ) (left : Option (List ℕ)) (b : Bool) → b ≡ true → IsFeeding limits old turn fed
    → ReadsPiece (Ok b) old new piece left → IsFeeding limits new (turn + 1) (fed ++ piece)
feeds_on limits old new turn fed piece left false is h f = differ (sym is)
feeds_on limits old new turn fed piece left true is h (some, next, calm) =
    let now = stands_next limits old new turn fed piece h next in
    let most = h.turns in
    record {
      limits_are = now.1;
      stands = now.0;
      calm = calm;
      turns = omega (arith, length-append fed piece);
    }

-- ---- the end

ending_err : (r : Result (Unit {0}) FileFault) → r ≡ ending (result_err r)
ending_err (Ok u) = refl
ending_err (Err f) = refl

none_met : (r : Contents) (f : Option FileFault) → r.fault ≡ f → IsSome f → result_err (finish_answer r) ≡ None → ⊥
none_met r None e some is = cc
none_met r (Some g) e some is = let now : Some g ≡ None = rw e at is in cc

torn_met : (r : Contents) (f : Option FileFault) → r.fault ≡ f → IsSome f → result_err (finish_answer r) ≡ Some Torn → r.fault ≡ Some Torn
torn_met r None e some is = absurd cc
torn_met r (Some g) e some is = let now : Some g ≡ Some Torn = rw e at is in e ∙ now

-- the reader is at its end, or the file has a fault
pub file_read : (limits : Limits) (s last : Stream) (file : List ℕ) (left : Option (List ℕ)) (fault : Option FileFault)
    → s.reading ≡ reading_of limits file → last.reading ≡ s.reading → fault ≡ result_err (finish_answer s.reading) → IsAtEnd left ⊎ IsSome s.reading.fault
    → IsFileRead limits fault last file left
file_read limits s last file left fault reading same is (inl end) = record {
  reading = same ∙ reading;
  answer = ap finish_answer (sym reading) ∙ (ending_err (finish_answer s.reading) ∙ ap ending (sym is));
  good = λ e. end;
  torn = λ e. end;
}
file_read limits s last file left fault reading same is (inr met) = record {
  reading = same ∙ reading;
  answer = ap finish_answer (sym reading) ∙ (ending_err (finish_answer s.reading) ∙ ap ending (sym is));
  good = λ e. absurd (none_met s.reading s.reading.fault refl met (sym is ∙ e));
  torn = λ e. absurd (fault-read limits.packet_bytes limits.packets file
      (ap (λ (r : Contents). r.fault) (sym reading) ∙ torn_met s.reading s.reading.fault refl met (sym is ∙ e)));
}

-- the last read, and then the end is marked
pub ends : (limits : Limits) (old new last : Stream) (turn : ℕ) (fed piece : List ℕ) (left : Option (List ℕ)) (b : Bool) (fault : Option FileFault) → b ≡ false
    → IsFeeding limits old turn fed → ReadsPiece (Ok b) old new piece left → last.reading ≡ new.reading → fault ≡ result_err (finish_answer new.reading)
    → IsFileRead limits fault last (fed ++ piece) left
ends limits old new last turn fed piece left true fault is h f same told = differ is
ends limits old new last turn fed piece left false fault is h (inl (none, kept, end)) same told =
    let reading : new.reading ≡ reading_of limits (fed ++ piece) =
    ap (λ (s : Stream). s.reading) kept
    ∙ (h.stands.reading
    ∙ (ap (λ (l : Limits). reading_of l fed) h.limits_are
    ∙ ap (reading_of limits) (sym (ap (λ xs. fed ++ xs) none ∙ append-nil fed)))) in
    file_read limits new last (fed ++ piece) left fault reading same told (inl end)
ends limits old new last turn fed piece left false fault is h (inr (next, met)) same told =
    let now = stands_next limits old new turn fed piece h next in
    file_read limits new last (fed ++ piece) left fault (now.0.reading ∙ ap (λ (l : Limits). reading_of l (fed ++ piece)) now.1) same told (inr met)

pub stops : (limits : Limits) (f : SurveyFault) (old new stream : Stream) (turn : ℕ) (fed piece : List ℕ) (left : Option (List ℕ)) → ReadsPiece (Err f) old new piece left
    → ReadsFile limits (Err f) stream (fed ++ piece) left
stops limits Device old new stream turn fed piece left h = tt
stops limits ReadTurns old new stream turn fed piece left h = absurd (h refl)
stops limits Memory old new stream turn fed piece left h = tt

-- ---- the number of reads

risen_at_most : (n old new : ℕ) → HasRisenBy n old new → new ≤ old + n
risen_at_most n old new (inl e) = omega arith
risen_at_most n old new (inr e) =
    let first = e.0 in
    let second = e.1 in
    omega arith

pub few_reads : (n old new : ℕ) → n ≤ 2 ^ 32 - 1 → HasRisenBy n old new → new ≤ old + (2 ^ 32 - 1)
few_reads n old new le h = let most = risen_at_most n old new h in omega arith

pub one_read : (n old now new : ℕ) → HasRisenBy n old now → new ≡ one_more now → HasRisenBy (n + 1) old new
one_read n old now new h rose = subst (λ (k : ℕ). HasRisenBy (n + 1) old k) (sym rose) (risen_by_one_more n old now h)

pub feeds_first : (s : Stream) → s ≡ initial_stream s.limits → IsFeeding s.limits s 0 []
feeds_first s is = record {
  limits_are = refl;
  stands = record {
    reading = ap (λ (t : Stream). t.reading) is ∙ sym (at_start s.limits).reading;
    ended = ap (λ (t : Stream). t.ended) is;
  };
  calm = ap (λ (t : Stream). t.reading.fault) is;
  turns = omega arith;
}
