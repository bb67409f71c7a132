-- The calls of `read` are counted.
use Rattle.std.proofs.Common.{◌≡◌, ◌≢◌, ◌<◌, ◌≤◌, ℕ, ◌+◌, ◌-◌, ◌^◌, Bool, true, List, Option, Result, Ok, Err, inl, inr, refl, sym, ap, subst, arith}
use Rattle.vp_base.specs.declared.limits.Limits.{Limits}
use Rattle.vp_base.specs.Counted.{one_more, HasRisenBy}
use Rattle.vp_base.proofs.CallLemmas.{risen_by_none, risen_by_one_more}
use Rattle.vp_stream.specs.declared.fault.SurveyFault.{SurveyFault}
use Rattle.vp_stream.specs.declared.fault.SurveyFault.TheVariants.{Device, ReadTurns, Memory}
use Rattle.vp_stream.specs.PacketReader.{PacketReader, HasRead, CountsReads, Took, before_first_read}
use Rattle.vp_stream.specs.declared.fault.DecodeFault.{DecodeFault}
use Rattle.vp_stream.specs.declared.fault.DecodeFault.TheVariants as ended
use Rattle.vp_stream.specs.declared.outcomes.Survey.{Survey}
use Rattle.vp_stream.specs.Transcode.{read_fault_by}
use Rattle.vp_stream.proofs.IncomingLemmas.{took_some}

pub nothing_read : (limits : Limits) (now : ℕ) → HasRead (before_first_read limits) now now
nothing_read limits now = (0, omega arith, risen_by_none now)

-- only the turns tell
pub same_reads : (s t : PacketReader) (before now then : ℕ) → t.turns ≡ s.turns → then ≡ now → HasRead s before now → HasRead t before then
same_reads s t before now then same kept h =
    let all = h.1 in
    (h.0, omega arith, subst (λ (n : ℕ). HasRisenBy h.0 before n) (sym kept) h.2)

-- a piece was read
pub read_once : (b : Bool) (old new : PacketReader) (left : Option (List ℕ)) (before now then : ℕ) → b ≡ true → (piece : List ℕ) → Took (Ok b) old new left piece
    → then ≡ one_more now → HasRead old before now → HasRead new before then
read_once b old new left before now then always piece t rose h =
    let parts = took_some b old new left piece always t in
    let fewer = ap (λ (s : PacketReader). s.turns) parts.2 in
    let some = parts.1 in
    let all = h.1 in
    (h.0 + 1, omega arith, subst (λ (n : ℕ). HasRisenBy (h.0 + 1) before n) (sym rose) (risen_by_one_more h.0 before now h.2))

-- no turn is left
pub all_read : (f : SurveyFault) (old new : PacketReader) (left : Option (List ℕ)) (piece : List ℕ) (before now then : ℕ) → Took (Err f) old new left piece
    → (f ≡ ReadTurns → then ≡ now) → HasRead old before now → CountsReads (Err f) new before then
all_read Device old new left piece before now then t same h = tt
all_read Memory old new left piece before now then t same h = tt
all_read ReadTurns old new left piece before now then t same h =
    let all = h.1 in
    let none = t.1 in
    let calls : h.0 ≡ 2 ^ 32 - 1 = omega arith in
    subst (λ (n : ℕ). HasRisenBy n before then) calls (subst (λ (n : ℕ). HasRisenBy h.0 before n) (sym (same refl)) h.2)

-- where the reads ran out, all of them were counted
pub survey_ran_out : (f : SurveyFault) (s : PacketReader) (before now : ℕ) → CountsReads (Err f) s before now
    → let r : Result Survey SurveyFault = Err f in r ≡ Err ReadTurns → HasRisenBy (2 ^ 32 - 1) before now
survey_ran_out Device s before now h e = cc
survey_ran_out Memory s before now h e = cc
survey_ran_out ReadTurns s before now h e = h

pub decode_ran_out : (f : SurveyFault) (s : PacketReader) (before now : ℕ) → CountsReads (Err f) s before now
    → let r : Result (Unit {0}) DecodeFault = Err (read_fault_by f) in r ≡ Err ended.ReadTurns → HasRisenBy (2 ^ 32 - 1) before now
decode_ran_out Device s before now h e = cc
decode_ran_out Memory s before now h e = cc
decode_ran_out ReadTurns s before now h e = h

-- ---- no more reads than turns

risen_at_most : (n old new : ℕ) → HasRisenBy n old new → new ≤ old + n
risen_at_most n old new (inl e) = omega arith
risen_at_most n old new (inr e) =
    let first = e.0 in
    let second = e.1 in
    omega arith

pub few_reads : (s : PacketReader) (before now : ℕ) → HasRead s before now → now ≤ before + (2 ^ 32 - 1)
few_reads s before now h =
    let all = h.1 in
    let most = risen_at_most h.0 before now h.2 in
    omega arith

one_read_more : (s : PacketReader) (before now then : ℕ) → 0 < s.turns → then ≡ one_more now → HasRead s before now → then ≤ before + (2 ^ 32 - 1)
one_read_more s before now then left rose h =
    let all = h.1 in
    let most = risen_at_most h.0 before now h.2 in
    omega arith

pub few_after : (r : Result Bool SurveyFault) (s : PacketReader) (before now then : ℕ) → (r ≢ Err ReadTurns → 0 < s.turns)
    → (r ≢ Err ReadTurns → then ≡ one_more now) → (r ≡ Err ReadTurns → then ≡ now) → HasRead s before now → then ≤ before + (2 ^ 32 - 1)
few_after (Ok b) s before now then left rose same h = one_read_more s before now then (left (λ e. cc)) (rose (λ e. cc)) h
few_after (Err Device) s before now then left rose same h = one_read_more s before now then (left (λ e. cc)) (rose (λ e. cc)) h
few_after (Err Memory) s before now then left rose same h = one_read_more s before now then (left (λ e. cc)) (rose (λ e. cc)) h
few_after (Err ReadTurns) s before now then left rose same h = subst (λ (n : ℕ). n ≤ before + (2 ^ 32 - 1)) (sym (same refl)) (few_reads s before now h)
