-- The result for a range, and for the file.
use Rattle.std.proofs.Common.{◌≡◌, ◌≢◌, ℕ, zero, suc, ◌+◌, ◌<◌, ◌≤◌, true, false, List, [], ◌++◌, length, drop, Option, Some, None, Result, Err, refl, sym, ap, subst, ◌∙◌, inl, arith}
use Rattle.std.specs.Prelude.{slice_get, slice_range}
use Rattle.std.specs.Io.KnownBytes.{Appends, Consumes}
use Rattle.std.proofs.lemmas.Bool.{le-ltb}
use Rattle.vp_base.specs.declared.limits.Limits.{Limits}
use Rattle.vp_base.specs.Counted.{AppendsPrefix, HasFailed}
use Rattle.vp_base.proofs.Writes.{appends_none}
use Rattle.vp_head.specs.declared.fault.PacketFault.{PacketFault}
use Rattle.vp_ivf.specs.declared.packet.Packet.{Packet}
use Rattle.vp_ivf.specs.declared.packet.IvfHead.{IvfHead}
use Rattle.vp_ivf.specs.declared.fault.FileFault.TheVariants.{Torn}
use Rattle.vp_ivf.specs.Ivf.{Contents}
use Rattle.vp_decode.specs.Step.{Answer}
use Rattle.vp_stream.specs.declared.form.Form.{Form}
use Rattle.vp_stream.specs.declared.form.Form.TheVariants.{I420}
use Rattle.vp_stream.specs.declared.fault.DecodeFault.{DecodeFault}
use Rattle.vp_stream.specs.declared.fault.DecodeFault.TheVariants.{File, SizeChange, Device, ReadTurns, Memory}
use Rattle.vp_stream.specs.declared.fault.SurveyFault.{SurveyFault}
use Rattle.vp_stream.specs.declared.fault.SurveyFault.TheVariants as reading
use Rattle.vp_stream.specs.Answers.{answers_from, reading_of}
use Rattle.vp_stream.specs.PacketReader.{IsStoppedBy}
use Rattle.vp_stream.specs.Reports.{faults_from}
use Rattle.vp_stream.specs.Seeking.{answer_or_none, answer_at}
use Rattle.vp_stream.specs.Stream.{Stream}
use Rattle.vp_stream.specs.Texts.{shown_in, text, changes_size}
use Rattle.vp_stream.specs.Transcode.{PictureWriter, fresh, read_fault_by}
use Rattle.vp_stream.proofs.IncomingLemmas.{headless}
use Rattle.vp_stream.proofs.ReportLemmas.{length-answers_to}
use Rattle.vp_frames.specs.declared.range.PacketRange.{PacketRange}
use Rattle.vp_frames.specs.declared.report.RangeReport.{RangeReport}
use Rattle.vp_frames.specs.Pictures.{with_answer, fits_answer, answer_text, faults_at, IsWriteFault}
use Rattle.vp_frames.specs.Ranges.{pictures_in, range_text, decoded_in}
use Rattle.vp_frames.specs.Written.{IsRangeReported, IsRangeWritten, IsRangeEndedBy, IsRangeDecoded, Side, WritesToChange}
use Rattle.vp_frames.proofs.RangeLemmas.{there, range_rest}
use Rattle.vp_frames.proofs.PacketLemmas.{IsAt, shown_to, first_text, first_sizes, goes_on, cut, changed}

-- ---- a stream with the contents of a file

-- the answers for the packets of a stream
abbrev pub answers_for : Stream → List Answer
answers_for s = answers_from s.limits None s.reading.packets

module _ (form : Form) (file : List ℕ) (range : PacketRange) (s : Stream) (head : IvfHead)
    (read : s.reading ≡ reading_of s.limits file) (known : s.reading.head ≡ Some head) where
  text_is : text form (Some head) (shown_to (answers_for s) range.first (range.last + 1)) ≡ range_text s.limits form file range
  text_is =
      ap (λ (k : Option IvfHead). text form k (shown_to (answers_for s) range.first (range.last + 1))) (sym known)
      ∙ ap (λ (r : Contents). text form r.head (shown_to (answers_from s.limits None r.packets) range.first (range.last + 1))) read

  sizes_are : changes_size form (shown_to (answers_for s) range.first (range.last + 1)) ≡ changes_size form (pictures_in s.limits file range)
  sizes_are = ap (λ (r : Contents). changes_size form (shown_to (answers_from s.limits None r.packets) range.first (range.last + 1))) read

  -- all packets of the range were taken
  pub reported : (n : ℕ) (pictures : PictureWriter) (faults : List (ℕ × PacketFault)) (before now : Option (List ℕ)) (report : RangeReport)
      → IsAt form head (answers_for s) range.first n pictures faults before now
      → slice_range (answers_for s) range.first n ≡ slice_range (answers_for s) range.first (range.last + 1)
      → report.count ≡ length s.reading.packets → report.decoded ≡ decoded_in s.reading.packets range → report.faults ≡ faults
      → IsRangeReported s.limits form file range report before now
  reported n pictures faults before now report h all count decoded noted =
      let P : List ℕ → Type 0 = λ xs. Appends before now xs in
      record {
        count = count ∙ ap (λ (r : Contents). length r.packets) read;
        decoded = decoded ∙ ap (λ (r : Contents). decoded_in r.packets range) read;
        faults = noted ∙ (h.noted ∙ (ap (faults_from range.first) all
            ∙ ap (λ (r : Contents). faults_from range.first (slice_range (answers_from s.limits None r.packets) range.first (range.last + 1))) read));
        writes = (
          sym sizes_are ∙ (ap (λ (as_ : List Answer). changes_size form (shown_in as_)) (sym all) ∙ h.sizes),
          subst P (ap (λ (as_ : List Answer). text form (Some head) (shown_in as_)) all ∙ text_is) h.writes,
        );
      }

  module _ (n : ℕ) (pictures : PictureWriter) (faults : List (ℕ × PacketFault)) (before now : Option (List ℕ))
      (h : IsAt form head (answers_for s) range.first n pictures faults before now) (low : range.first ≤ n) (high : n ≤ range.last)
      (a : Answer) (at : slice_get (answers_for s) n ≡ Some a) (W : Type 0) (written : Option (List ℕ))
      (w : AppendsPrefix now written (answer_text pictures head (answer_at s.limits s.reading.packets n))) where
    cut_here : AppendsPrefix before written (range_text s.limits form file range)
    cut_here =
        let P : List ℕ → Type 0 = λ xs. AppendsPrefix before written xs in
        subst P text_is (cut form head (answers_for s) range.first n pictures faults before now h a (answer_at s.limits s.reading.packets n) low at (ap answer_or_none at)
        (range.last + 1) written (omega arith) w)

    changed_here : fits_answer pictures (answer_at s.limits s.reading.packets n) ≡ false → WritesToChange s.limits form file range before written
    changed_here unfits =
        let P : List ℕ → Type 0 = λ xs. Appends before written xs in
        let both = changed form head (answers_for s) range.first n pictures faults before now h a (answer_at s.limits s.reading.packets n) low at (ap answer_or_none at)
        (range.last + 1) written (omega arith) unfits w in
        (sym sizes_are ∙ both.0, subst P text_is both.1)

    stopped_there : (fault : DecodeFault) → IsWriteFault fault → (fault ≡ Device → W) → (fault ≡ SizeChange → fits_answer pictures (answer_at s.limits s.reading.packets n) ≡ false)
        → IsRangeWritten s.limits form file range (Err fault) W before written
    stopped_there (File f) some fails unfits = absurd some
    stopped_there SizeChange some fails unfits = changed_here (unfits refl)
    stopped_there Device some fails unfits = (fails refl, cut_here)
    stopped_there ReadTurns some fails unfits = absurd some
    stopped_there Memory some fails unfits = cut_here

pub long : (s : Stream) → length (answers_for s) ≡ length s.reading.packets
long s = length-answers_to (fresh s.limits I420) s.reading.packets

-- a packet is written
pub written_on : (form : Form) (s : Stream) (head head' : IvfHead) (first n : ℕ) (pictures pictures' : PictureWriter) (faults faults' : List (ℕ × PacketFault))
    (before now written : Option (List ℕ)) → head' ≡ head
    → IsAt form head (answers_for s) first n pictures faults before now → first ≤ n → n < length s.reading.packets
    → pictures' ≡ with_answer pictures (answer_at s.limits s.reading.packets n) → faults' ≡ faults ++ faults_at n (answer_at s.limits s.reading.packets n)
    → fits_answer pictures (answer_at s.limits s.reading.packets n) ≡ true
    → Appends now written (answer_text pictures head (answer_at s.limits s.reading.packets n))
    → IsAt form head' (answers_for s) first (n + 1) pictures' faults' before written
written_on form s head head' first n pictures pictures' faults faults' before now written same h low within pictures_are faults_are fit w =
    let found = there (answers_for s) n (omega (arith, long s)) in
    subst (λ (k : IvfHead). IsAt form k (answers_for s) first (n + 1) pictures' faults' before written) (sym same)
    (goes_on form head (answers_for s) first n pictures faults before now h found.0 (answer_at s.limits s.reading.packets n) low found.1 (ap answer_or_none found.1)
    pictures' faults' written (omega (arith, long s)) pictures_are faults_are fit w)

-- decoding or writing stops at a packet
pub stopped : (form : Form) (file : List ℕ) (range : PacketRange) (s : Stream) (head : IvfHead) (n : ℕ) (pictures : PictureWriter) (faults : List (ℕ × PacketFault))
    (before now written : Option (List ℕ)) (W : Type 0) (fault : DecodeFault)
    → s.reading ≡ reading_of s.limits file → s.reading.head ≡ Some head
    → IsAt form head (answers_for s) range.first n pictures faults before now → range.first ≤ n → n ≤ range.last → n < length s.reading.packets
    → IsWriteFault fault → (fault ≡ Device → W) → (fault ≡ SizeChange → fits_answer pictures (answer_at s.limits s.reading.packets n) ≡ false)
    → AppendsPrefix now written (answer_text pictures head (answer_at s.limits s.reading.packets n))
    → IsRangeWritten s.limits form file range (Err fault) W before written
stopped form file range s head n pictures faults before now written W fault read known h low high within some fails unfits w =
    let found = there (answers_for s) n (omega (arith, long s)) in
    stopped_there form file range s head read known n pictures faults before now h low high found.0 found.1 W written w fault some fails unfits

-- ---- a file without a head

none_in : {X : Type 0} (f : ℕ) → let xs : List X = [] in drop f xs ≡ []
none_in zero = refl
none_in (suc f) = refl

empty_part : {X : Type 0} (f e : ℕ) → let xs : List X = [] in slice_range xs f e ≡ []
empty_part f e = range_rest [] f e (omega arith) ∙ none_in f

no_answers : (limits : Limits) (packets : List Packet) (range : PacketRange) → packets ≡ [] → slice_range (answers_from limits None packets) range.first (range.last + 1) ≡ []
no_answers limits packets range none =
    ap (λ (ps : List Packet). slice_range (answers_from limits None ps) range.first (range.last + 1)) none
    ∙ empty_part range.first (range.last + 1)

nothing_decoded : (range : PacketRange) → decoded_in [] range ≡ 0
nothing_decoded range = rw (le-ltb range.first 0 (omega arith)) refl

pub unheaded : (form : Form) (file : List ℕ) (range : PacketRange) (s : Stream) (report : RangeReport) (now : Option (List ℕ))
    → s.reading ≡ reading_of s.limits file → s.reading.head ≡ None
    → report.count ≡ length s.reading.packets → report.decoded ≡ 0 → report.faults ≡ []
    → IsRangeReported s.limits form file range report now now
unheaded form file range s report now read known count decoded noted =
    let none : (reading_of s.limits file).packets ≡ [] = headless s.limits file (ap (λ (r : Contents). r.head) (sym read) ∙ known) in
    let nothing = no_answers s.limits (reading_of s.limits file).packets range none in
    let P : List ℕ → Type 0 = λ xs. Appends now now xs in
    record {
      count = count ∙ ap (λ (r : Contents). length r.packets) read;
      decoded = decoded ∙ (sym (nothing_decoded range) ∙ ap (λ (ps : List Packet). decoded_in ps range) (sym none));
      faults = noted ∙ ap (faults_from range.first) (sym nothing);
      writes = (
        ap (λ (as_ : List Answer). changes_size form (shown_in as_)) nothing ∙ first_sizes form,
        subst P (sym (ap (λ (as_ : List Answer). text form (reading_of s.limits file).head (shown_in as_)) nothing ∙ first_text form (reading_of s.limits file).head)) (appends_none now),
      );
    }

-- ---- the whole call

stopped_by : (limits : Limits) (form : Form) (file : List ℕ) (range : PacketRange) (f : SurveyFault) (W : Type 0) (now : Option (List ℕ)) → IsStoppedBy f file
    → IsRangeEndedBy limits form file range (read_fault_by f) W now now
stopped_by limits form file range reading.Device W now h = inl (appends_none now)
stopped_by limits form file range reading.ReadTurns W now h = (h, appends_none now)
stopped_by limits form file range reading.Memory W now h = ([], range_text limits form file range, refl, appends_none now)

not_torn : (f : SurveyFault) → read_fault_by f ≡ File Torn → ⊥
not_torn reading.Device e = cc
not_torn reading.ReadTurns e = cc
not_torn reading.Memory e = cc

only_device : (f : SurveyFault) → read_fault_by f ≡ Device → f ≡ reading.Device
only_device reading.Device e = refl
only_device reading.ReadTurns e = cc
only_device reading.Memory e = cc

same_err : {A B : Type 0} (x y : B) → let r : Result A B = Err x in r ≡ Err y → x ≡ y
same_err x y e = cc

-- reading stops, and nothing is written
pub unread : (limits : Limits) (form : Form) (range : PacketRange) (f : SurveyFault) (file : List ℕ) (i i' o : Side) → Consumes i.bytes i'.bytes file → IsStoppedBy f file
    → (f ≡ reading.Device → HasFailed i.failures i'.failures) → (f ≢ reading.Device → i'.failures ≡ i.failures)
    → IsRangeDecoded limits form range (Err (read_fault_by f)) i i' o o
unread limits form range f file i i' o consumed stop fails calm = record {
  file = file;
  consumed = consumed;
  answer = stopped_by limits form file range f (HasFailed o.failures o.failures) o.bytes stop;
  end = tt;
  torn = λ e. absurd (not_torn f (same_err (read_fault_by f) (File Torn) e));
  device = λ e. inl (fails (only_device f (same_err (read_fault_by f) Device e)));
  quiet = λ ne. (calm (λ e. ne (ap (λ (g : SurveyFault). Err (read_fault_by g)) e)), refl);
}
