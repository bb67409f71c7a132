-- What the commands do.
use Rattle.std.proofs.Common.{Option, Some, None, Ok, arith}
use Rattle.std.specs.Io.KnownBytes.{Appends}
use Rattle.vp_base.specs.Counted.{HasFailed}
use Rattle.vp_ivf.specs.declared.fault.FileFault.{FileFault}
use Rattle.vp_commands.specs.Commands.{status_by_checks, status_by_fault, PrintsChecks, PrintsSum}
use Rattle.vp_lines.specs.CheckLines.{checks_text}
use Rattle.vp_lines.specs.Listing.{survey_text}
use Rattle.vp_lines.specs.Sums.{PrintsSums}
use Rattle.vp_lines.specs.declared.styles.LineStyle.{LineStyle}
use Rattle.vp_check.specs.declared.checked.Checked.{Checked}
use Rattle.std.proofs.Common.{◌≡◌, inl, inr, List, ℕ, Bool, true, refl}
use Rattle.std.specs.Prelude.{Result, Err, IsOk, length, is_err, is_ok, ◌^◌, ◌-◌}
use Rattle.vp_stream.specs.declared.form.Form.{Form}
use Rattle.vp_stream.specs.declared.report.Report.{Report}
use Rattle.vp_frames.specs.declared.report.RangeReport.{RangeReport}
use Rattle.vp_stream.specs.declared.outcomes.Survey.{Survey}
use Rattle.vp_stream.specs.declared.fault.DecodeFault.{DecodeFault}
use Rattle.vp_stream.specs.declared.fault.DecodeFault.TheVariants.{Device, Memory}
use Rattle.vp_args.specs.declared.file_limits.FileLimits.{FileLimits}
use Rattle.vp_commands.specs.Status.{status_of}
use Rattle.vp_commands.specs.Commands.{IsFileDecoded, IsFileRangeDecoded, IsUnopened, Side, PrintsSurvey, status_by_range}

-- ---- the laws

no_fault : (f : Option FileFault) → 0 ≡ status_by_fault f → f ≡ None
no_fault None e = refl
no_fault (Some f) e = absurd (omega (arith, e))

pub listed : (s : Survey) (b a : Side) → PrintsSurvey (Ok s) 0 b a → (s.fault ≡ None) × Appends b.bytes a.bytes (survey_text s)
listed s b a (inl (e, w)) = (no_fault s.fault e, w)
listed s b a (inr (e, f)) = absurd (omega (arith, e))

pub printed_survey : (s : Survey) (status : ℕ) (b a : Side) → (HasFailed b.failures a.failures → ⊥) → PrintsSurvey (Ok s) status b a
    → (status ≡ status_by_fault s.fault) × Appends b.bytes a.bytes (survey_text s)
printed_survey s status b a none (inl h) = h
printed_survey s status b a none (inr (e, f)) = absurd (none f)

pub printed_checks : (style : LineStyle) (names : List (List ℕ)) (dones : List (Result Checked DecodeFault)) (status : ℕ) (b a : Side)
    → (HasFailed b.failures a.failures → ⊥) → PrintsChecks style names dones status b a
    → (length dones ≡ length names) × (status ≡ status_by_checks style dones) × Appends b.bytes a.bytes (checks_text style names dones)
printed_checks style names dones status b a none (inl h) = h
printed_checks style names dones status b a none (inr (e, f)) = absurd (none f)

pub printed_sums : {T : Type 0} (each : Bool) (report : T) (name : List ℕ) (good status : ℕ) (b a : Side)
    → (HasFailed b.failures a.failures → ⊥) → PrintsSum {T = T} each (Ok report) name good status b a
    → (status ≡ good) × PrintsSums each name b.bytes a.bytes
printed_sums each report name good status b a none (inl h) = h
printed_sums each report name good status b a none (inr (e, f)) = absurd (none f)

pub never_done : (name : List ℕ) (r : Report) → IsUnopened {T = Report} Device Memory name (Ok r) → ⊥
never_done name r (e, inl f) = absurd cc
never_done name r (e, inr f) = absurd cc

-- ---- a file that can't be finished

-- a side of which nothing is known but that it failed
abbrev pub failed_side : Side
failed_side = record { bytes = None; failures = 2 ^ 64 - 1 }

-- what fails is not well
fails : {T E : Type 0} (r : Result T E) → is_err r ≡ true → is_ok r ≡ true → ⊥
fails (Ok x) failed ok = absurd cc
fails (Err e) failed ok = absurd cc

-- what was decoded to a file that can't be finished: its device failed
pub unfinished : {T E F : Type 0} {new old : F} (most : FileLimits) (form : Form) (done : Result Report DecodeFault) (finished : Result T E) (i i' a b : Side)
    → is_err finished ≡ true → (status_of done ≡ 1 → IsOk finished × (new ≡ old)) → IsFileDecoded most form done i i' a b
    → (c : Side) × (d : Side) × IsFileDecoded most form (Err Device) i i' c d
unfinished most form (Ok report) finished i i' a b failed kept h = (
  failed_side,
  failed_side,
  record {
    limits = h.limits;
    usual = h.usual;
    file = h.file;
    consumed = h.consumed;
    answer = inl (h.answer.writes.0, tt);
    end = tt;
    torn = λ e. absurd cc;
    device = λ e. inr (inr refl);
    quiet = λ ne. absurd (ne refl);
  },
)
unfinished most form (Err fault) finished i i' a b failed kept h = absurd (fails finished failed (kept refl).0)

-- the same for a range
pub unfinished_range : {T E F : Type 0} {new old : F} (most : FileLimits) (form : Form) (first last : ℕ) (done : Result RangeReport DecodeFault) (finished : Result T E) (i i' a b : Side)
    → is_err finished ≡ true → (status_by_range last done ≡ 1 → IsOk finished × (new ≡ old)) → IsFileRangeDecoded most form first last done i i' a b
    → (c : Side) × (d : Side) × IsFileRangeDecoded most form first last (Err Device) i i' c d
unfinished_range most form first last (Ok report) finished i i' a b failed kept h = (
  failed_side,
  failed_side,
  record {
    limits = h.limits;
    usual = h.usual;
    range = h.range;
    first_is = h.first_is;
    last_is = h.last_is;
    file = h.file;
    consumed = h.consumed;
    answer = inl tt;
    end = tt;
    torn = λ e. absurd cc;
    device = λ e. inr (inr refl);
    quiet = λ ne. absurd (ne refl);
  },
)
unfinished_range most form first last (Err fault) finished i i' a b failed kept h = absurd (fails finished failed (kept refl).0)
