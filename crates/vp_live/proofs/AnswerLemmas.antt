-- The answer of live encoding, by where the work ended.
use Rattle.std.proofs.Common.{◌≡◌, ◌≢◌, ℕ, List, [], ◌++◌, length, Option, Result, Ok, Err, ◌⊎◌, refl, sym, ap, subst, ◌∙◌, inl, inr}
use Rattle.std.specs.Io.KnownBytes.{Appends, Consumes, IsAtEnd}
use Rattle.std.proofs.KnownBytes.{Consumes-trans}
use Rattle.std.proofs.lemmas.List.{append-nil}
use Rattle.vp_base.specs.declared.limits.Limits.{Limits}
use Rattle.vp_base.specs.declared.counted.Counted.{Counted}
use Rattle.vp_base.specs.Counted.{AppendsPrefix, HasFailed, counted_remaining, counted_contents, counted_failures}
use Rattle.vp_y4m.specs.declared.fault.SourceFault.{SourceFault}
use Rattle.vp_y4m.specs.declared.fault.SourceFault.TheVariants as source
use Rattle.vp_y4m.specs.Header.{Head}
use Rattle.vp_y4m.specs.Pictures.{file_head}
use Rattle.vp_y4m.specs.Reads.{Shows, Fails}
use Rattle.vp_encode.specs.declared.settings.Settings.{Settings}
use Rattle.vp_encode.specs.declared.report.EncodeReport.{EncodeReport}
use Rattle.vp_encode.specs.declared.report.EncodedSoFar.{EncodedSoFar}
use Rattle.vp_encode.specs.declared.report.EncodeAllFault.{EncodeAllFault}
use Rattle.vp_encode.specs.declared.report.EncodeAllFault.TheVariants as fault
use Rattle.vp_encode.specs.Encoder.{EncoderState, AreAllowed}
use Rattle.vp_encode.specs.Encoded.{EncodedFrame}
use Rattle.vp_encode.specs.File.{Work, IsDone, AreFramesOf, IsWrittenFurther, encode_fault_of, frames_report, progress_of_frames}
use Rattle.vp_encode.proofs.FileLemmas.{head_end, head_device, head_quiet, settings_refused, told_none}
use Rattle.vp_live.specs.Live.{IsLiveOver, IsLiveEnded, IsLiveReported, live_text}
use Rattle.vp_live.specs.Progress.{LiveProgress, IsLiveAt, EndsLive}
use Rattle.vp_live.proofs.LiveLemmas.{head_ends}

-- before the first picture
abbrev pub begun_with : Limits → EncoderState → LiveProgress
begun_with limits encoder = record { limits = limits; encoder = encoder; frames = 0; bytes = 0; error = 0 }

-- the head, and then what the pictures behind it came to
pub live_ends : (limits : Limits) (settings : Settings) (encoder : EncoderState) (run after : LiveProgress) (told told' : List EncodedSoFar → Type 0) (head : Head) (before mid left written headed now : Option (List ℕ)) (result : Result (Unit {0}) EncodeAllFault)
    → run ≡ begun_with limits encoder
    → (s : Shows (file_head limits.pixels) (λ rest. Ok (head, rest)) before mid)
    → IsLiveAt settings head s.taken [] (begun_with limits encoder)
    → Appends written headed (live_text head [])
    → ((settings : Settings) (line : List ℕ) (start : Option (List ℕ)) → IsLiveAt settings head line [] run → Appends start headed (live_text head [])
    → (bytes : List ℕ) × (frames : List EncodedFrame) × Consumes mid left bytes × IsWrittenFurther told told' (progress_of_frames frames)
    × EndsLive run.limits settings result (line ++ bytes) frames after start now)
    → (file : List ℕ) × (frames : List EncodedFrame) × Consumes before left file × IsWrittenFurther told told' (progress_of_frames frames)
    × EndsLive limits settings result file frames after written now
live_ends limits settings encoder run after told told' head before mid left written headed now result is s begun text ends =
    let B : LiveProgress → Type 0 = λ r. IsLiveAt settings head s.taken [] r in
    let e = ends settings s.taken written (subst B (sym is) begun) text in
    let E : LiveProgress → Type 0 = λ r. EndsLive r.limits settings result (s.taken ++ e.0) e.1 after written now in
    (s.taken ++ e.0, e.1, Consumes-trans before mid left s.taken e.0 s.consumed e.2, e.3, subst E is e.4)

module _ {R W : Type 0} (remaining : R → Option (List ℕ)) (contents : W → Option (List ℕ)) (limits : Limits) (settings : Settings)
    (result : Result EncodeReport EncodeAllFault) (reader reader' : Counted R) where
  -- by a fault
  pub ended_over : (writer writer' : Counted W) (told told' : List EncodedSoFar → Type 0) (f : EncodeAllFault) → result ≡ Err f
      → (frames : List EncodedFrame) → IsWrittenFurther told told' (progress_of_frames frames)
      → (file : List ℕ) → Consumes (counted_remaining remaining reader) (counted_remaining remaining reader') file
      → AreFramesOf limits settings file frames
      → IsLiveEnded (length frames) limits settings f file (counted_contents contents writer) (counted_contents contents writer')
      → (f ≡ fault.Torn → IsAtEnd (counted_remaining remaining reader'))
      → (f ≡ fault.Device → HasFailed (counted_failures reader) (counted_failures reader') ⊎ HasFailed (counted_failures writer) (counted_failures writer'))
      → (f ≢ fault.Device → (counted_failures reader' ≡ counted_failures reader) × (counted_failures writer' ≡ counted_failures writer))
      → IsLiveOver remaining contents limits settings result reader reader' writer writer' told told'
  ended_over writer writer' told told' f is frames further file consumed are ended torn device quiet = record {
    frames = frames;
    file = file;
    consumed = consumed;
    encoded = are;
    reported = rw is tt;
    answer = rw is ended;
    told_further = further;
    end = rw is tt;
    torn = λ e. torn cc;
    device = λ e. device cc;
    quiet = λ n. quiet (λ e. n (is ∙ ap Err e));
  }

  -- at the head's line
  pub head_over : {A : Type 0} (writer : Counted W) (told : List EncodedSoFar → Type 0) (f : SourceFault) → result ≡ Err (encode_fault_of f)
      → Fails (file_head limits.pixels) f (counted_remaining remaining reader) (counted_remaining remaining reader')
      → (let r : Result A SourceFault = Err f in r ≡ Err source.Device → HasFailed (counted_failures reader) (counted_failures reader'))
      → (let r : Result A SourceFault = Err f in r ≢ Err source.Device → counted_failures reader' ≡ counted_failures reader)
      → IsLiveOver remaining contents limits settings result reader reader' writer writer told told
  head_over writer told f is fails device quiet =
      let t = head_ends limits settings f (counted_remaining remaining reader) (counted_remaining remaining reader') fails in
      ended_over writer writer told told (encode_fault_of f) is [] (told_none told) t.0 t.1 (inl refl) (t.2 (counted_contents contents writer))
      (head_end limits.pixels f _ _ fails) (λ d. inl (head_device f _ _ device d)) (λ n. (head_quiet f _ _ quiet n, refl))

  -- at the settings
  pub settings_over : (writer : Counted W) (told : List EncodedSoFar → Type 0) (head : Head) → result ≡ Err fault.Settings
      → Shows (file_head limits.pixels) (λ rest. Ok (head, rest)) (counted_remaining remaining reader) (counted_remaining remaining reader')
      → ¬ AreAllowed settings → counted_failures reader' ≡ counted_failures reader
      → IsLiveOver remaining contents limits settings result reader reader' writer writer told told
  settings_over writer told head is s refused quiet =
      let r = settings_refused limits settings head (counted_remaining remaining reader) (counted_remaining remaining reader') (counted_contents contents writer) s refused in
      ended_over writer writer told told fault.Settings is [] (told_none told) s.taken s.consumed (inl refl) (inl (inr (inl (refl, r.0, r.1, r.2)), refl, refl))
      (λ e. cc) (λ e. cc) (λ n. (quiet, refl))

  -- at a write of the head
  pub write_over : (writer writer' : Counted W) (told : List EncodedSoFar → Type 0) (head : Head) (encoder : EncoderState) → result ≡ Err fault.Device
      → (s : Shows (file_head limits.pixels) (λ rest. Ok (head, rest)) (counted_remaining remaining reader) (counted_remaining remaining reader'))
      → IsLiveAt settings head s.taken [] (begun_with limits encoder)
      → AppendsPrefix (counted_contents contents writer) (counted_contents contents writer') (live_text head [])
      → HasFailed (counted_failures writer) (counted_failures writer')
      → IsLiveOver remaining contents limits settings result reader reader' writer writer' told told
  write_over writer writer' told head encoder is s begun front failed =
      let w : Work = record { head = head; frames = []; encoder = encoder; rest = [] } in
      let done : IsDone limits settings s.taken w = subst (λ (b : List ℕ). IsDone limits settings b w) (append-nil s.taken) (begun.done []) in
      ended_over writer writer' told told fault.Device is [] (told_none told) s.taken s.consumed (inl refl) (inr (inr (refl, inl (w, (done, refl), refl, front))))
      (λ e. cc) (λ e. inr failed) (λ n. absurd (n refl))

  -- at the source's end
  pub reported_over : (writer writer' : Counted W) (told told' : List EncodedSoFar → Type 0) (report : EncodeReport) → result ≡ Ok report
      → (frames : List EncodedFrame) → IsWrittenFurther told told' (progress_of_frames frames)
      → (file : List ℕ) → Consumes (counted_remaining remaining reader) (counted_remaining remaining reader') file
      → AreFramesOf limits settings file frames → report ≡ frames_report frames
      → IsLiveReported limits settings report file (counted_contents contents writer) (counted_contents contents writer')
      → IsAtEnd (counted_remaining remaining reader')
      → counted_failures reader' ≡ counted_failures reader → counted_failures writer' ≡ counted_failures writer
      → IsLiveOver remaining contents limits settings result reader reader' writer writer' told told'
  reported_over writer writer' told told' report is frames further file consumed are same reported at_end read written = record {
    frames = frames;
    file = file;
    consumed = consumed;
    encoded = are;
    answer = rw is (reported, ap (λ (r : EncodeReport). r.frames) same);
    reported = rw is same;
    told_further = further;
    end = rw is at_end;
    torn = λ e. cc;
    device = λ e. cc;
    quiet = λ n. (read, written);
  }
