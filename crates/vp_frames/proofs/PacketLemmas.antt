-- The packets of a range are written, one after another.
use Rattle.std.proofs.Common.{◌≡◌, ℕ, ◌+◌, ◌≤◌, Bool, true, false, not, List, [], ◌∷◌, ◌++◌, length, Option, Some, refl, sym, ap, subst, ◌∙◌, arith}
use Rattle.std.specs.Prelude.{slice_get, slice_range}
use Rattle.std.specs.Option.{option_to_list}
use Rattle.std.specs.Io.KnownBytes.{Appends}
use Rattle.std.proofs.lemmas.List.Elements.{filter_map-append}
use Rattle.vp_base.specs.Image.{Image}
use Rattle.vp_base.specs.Counted.{AppendsPrefix}
use Rattle.vp_base.proofs.Writes.{appends_none, appends_both, front_first, front_second}
use Rattle.vp_head.specs.declared.fault.PacketFault.{PacketFault}
use Rattle.vp_ivf.specs.declared.packet.IvfHead.{IvfHead}
use Rattle.vp_decode.specs.Step.{Answer, picture_in}
use Rattle.vp_stream.specs.declared.form.Form.{Form}
use Rattle.vp_stream.specs.declared.form.Form.TheVariants.{I420, Y4m}
use Rattle.vp_stream.specs.Reports.{faults_from}
use Rattle.vp_stream.specs.Seeking.{AnswerValue, answer_values}
use Rattle.vp_stream.specs.Texts.{shown_in, text, changes_size}
use Rattle.vp_stream.specs.Transcode.{PictureWriter, unsized, with_shown, fits_shown, shown_text}
use Rattle.vp_stream.proofs.TextLemmas.{sized, size_more, change_more, text_more, change_stays, text_stays, text_front, unfit, shown_more}
use Rattle.vp_frames.specs.Pictures.{with_answer, fits_answer, answer_text, faults_at}
use Rattle.vp_frames.proofs.RangeLemmas.{range_more, range_none, range_front, length-range}
use Rattle.vp_frames.proofs.PictureLemmas.{with_answer_is, fits_answer_is, answer_text_is, faults_more}

-- the pictures shown by the answers from `first` on, and before n
abbrev pub shown_to : List Answer → ℕ → ℕ → List Image
shown_to answers first n = shown_in (slice_range answers first n)

-- the packets from `first` on, and before n, are written
pub record IsAt (form : Form) (head : IvfHead) (answers : List Answer) (first n : ℕ) (pictures : PictureWriter)
    (faults : List (ℕ × PacketFault)) (before now : Option (List ℕ)) : Type 0 where
  pub sizing : pictures ≡ sized form (shown_to answers first n)
  pub sizes : changes_size form (shown_to answers first n) ≡ false
  pub noted : faults ≡ faults_from first (slice_range answers first n)
  pub writes : Appends before now (text form (Some head) (shown_to answers first n))

first_sizing : (form : Form) → unsized form ≡ sized form []
first_sizing I420 = refl
first_sizing Y4m = refl

pub first_sizes : (form : Form) → changes_size form [] ≡ false
first_sizes I420 = refl
first_sizes Y4m = refl

pub first_text : (form : Form) (head : Option IvfHead) → text form head [] ≡ []
first_text I420 head = refl
first_text Y4m head = refl

none_shown : (answers : List Answer) (first : ℕ) → shown_to answers first first ≡ []
none_shown answers first = ap shown_in (range_none answers first)

pub at_first : (form : Form) (head : IvfHead) (answers : List Answer) (first : ℕ) (pictures : PictureWriter) (faults : List (ℕ × PacketFault)) (now : Option (List ℕ))
    → pictures ≡ unsized form → faults ≡ [] → IsAt form head answers first first pictures faults now now
at_first form head answers first pictures faults now new none =
    let P : List ℕ → Type 0 = λ xs. Appends now now xs in
    let nothing = none_shown answers first in
    record {
      sizing = new ∙ (first_sizing form ∙ ap (sized form) (sym nothing));
      sizes = ap (changes_size form) nothing ∙ first_sizes form;
      noted = none ∙ ap (faults_from first) (sym (range_none answers first));
      writes = subst P (sym (ap (text form (Some head)) nothing ∙ first_text form (Some head))) (appends_none now);
    }

shown_front : (answers : List Answer) (first m e : ℕ) → first ≤ m → m ≤ e → (others : List Image) × (shown_to answers first e ≡ shown_to answers first m ++ others)
shown_front answers first m e low high =
    let rest = range_front answers first m e low high in
    (shown_in rest.0, ap shown_in rest.1 ∙ filter_map-append picture_in (slice_range answers first m) rest.0)

nothing_in : (xs ys : List ℕ) → xs ++ ys ≡ [] → xs ≡ []
nothing_in [] ys e = refl
nothing_in (x ∷ xs) ys e = cc

-- a front of nothing is nothing
front_of_none : (a b : Option (List ℕ)) (xs : List ℕ) → xs ≡ [] → AppendsPrefix a b xs → Appends a b []
front_of_none a b xs e w =
    let P : List ℕ → Type 0 = λ ys. Appends a b ys in
    subst P (nothing_in w.0 w.1 (sym w.2 ∙ e)) w.3

module _ (form : Form) (head : IvfHead) (answers : List Answer) (first n : ℕ) (pictures : PictureWriter) (faults : List (ℕ × PacketFault))
    (before now : Option (List ℕ)) (h : IsAt form head answers first n pictures faults before now)
    (a : Answer) (v : AnswerValue) (low : first ≤ n) (at : slice_get answers n ≡ Some a) (is : v ≡ answer_values a) where
  abbrev so : List ℕ
  so = text form (Some head) (shown_to answers first n)

  with_next : shown_to answers first (n + 1) ≡ shown_to answers first n ++ option_to_list (picture_in a)
  with_next = ap shown_in (range_more answers first n a low at) ∙ shown_more (slice_range answers first n) a

  text_next : text form (Some head) (shown_to answers first (n + 1)) ≡ so ++ answer_text pictures head v
  text_next =
      ap (text form (Some head)) with_next
      ∙ (text_more form head (shown_to answers first n) (picture_in a) h.sizes
      ∙ (ap (λ (s : PictureWriter). so ++ shown_text s head (picture_in a)) (sym h.sizing)
      ∙ ap (λ (xs : List ℕ). so ++ xs) (sym (ap (answer_text pictures head) is ∙ answer_text_is pictures head a))))

  size_next : (b : Bool) → fits_answer pictures v ≡ b → changes_size form (shown_to answers first (n + 1)) ≡ not b
  size_next b e =
      ap (changes_size form) with_next
      ∙ change_more form (shown_to answers first n) (picture_in a) b h.sizes
      (ap (λ (s : PictureWriter). fits_shown s (picture_in a)) (sym h.sizing)
      ∙ (sym (ap (fits_answer pictures) is ∙ fits_answer_is pictures a) ∙ e))

  -- the packet's picture is written, or its fault is noted
  pub goes_on : (pictures' : PictureWriter) (faults' : List (ℕ × PacketFault)) (written : Option (List ℕ)) → n ≤ length answers
      → pictures' ≡ with_answer pictures v → faults' ≡ faults ++ faults_at n v → fits_answer pictures v ≡ true
      → Appends now written (answer_text pictures head v)
      → IsAt form head answers first (n + 1) pictures' faults' before written
  goes_on pictures' faults' written high pictures_are faults_are fit w =
      let P : List ℕ → Type 0 = λ xs. Appends before written xs in
      let long : n ≡ first + length (slice_range answers first n) = omega (arith, length-range answers first n low high) in
      record {
        sizing = pictures_are
            ∙ (ap (with_answer pictures) is
            ∙ (with_answer_is pictures a
            ∙ (ap (λ (s : PictureWriter). with_shown s (picture_in a)) h.sizing
            ∙ (size_more form (shown_to answers first n) (picture_in a) ∙ ap (sized form) (sym with_next)))));
        sizes = size_next true fit;
        noted = faults_are
            ∙ (ap (λ (fs : List (ℕ × PacketFault)). fs ++ faults_at n v) h.noted
            ∙ (ap (λ (u : AnswerValue). faults_from first (slice_range answers first n) ++ faults_at n u) is
            ∙ (sym (faults_more first n (slice_range answers first n) a long) ∙ ap (faults_from first) (sym (range_more answers first n a low at)))));
        writes = subst P (sym text_next) (appends_both before now written so (answer_text pictures head v) h.writes w);
      }

  -- writing stops within the packet's text
  pub cut : (e : ℕ) (written : Option (List ℕ)) → n + 1 ≤ e → AppendsPrefix now written (answer_text pictures head v)
      → AppendsPrefix before written (text form (Some head) (shown_to answers first e))
  cut e written high w =
      let P : List ℕ → Type 0 = λ xs. AppendsPrefix before written xs in
      let one = answer_text pictures head v in
      let rest = shown_front answers first (n + 1) e (omega arith) high in
      let whole = text_front form (Some head) (shown_to answers first (n + 1)) rest.0 in
      subst P (sym (ap (text form (Some head)) rest.1 ∙ (whole.1 ∙ ap (λ xs. xs ++ whole.0) text_next)))
      (front_first before written (so ++ one) whole.0 (front_second before now written so one h.writes w))

  -- the picture has another size
  pub changed : (e : ℕ) (written : Option (List ℕ)) → n + 1 ≤ e → fits_answer pictures v ≡ false → AppendsPrefix now written (answer_text pictures head v)
      → (changes_size form (shown_to answers first e) ≡ true) × Appends before written (text form (Some head) (shown_to answers first e))
  changed e written high unfits w =
      let P : List ℕ → Type 0 = λ xs. Appends before written xs in
      let one = answer_text pictures head v in
      let rest = shown_front answers first (n + 1) e (omega arith) high in
      let now_changed : changes_size form (shown_to answers first (n + 1)) ≡ true = size_next false unfits in
      let nothing : one ≡ [] =
      ap (answer_text pictures head) is ∙ (answer_text_is pictures head a
      ∙ unfit pictures head (picture_in a) (sym (ap (fits_answer pictures) is ∙ fits_answer_is pictures a) ∙ unfits)) in
      let same : text form (Some head) (shown_to answers first e) ≡ so ++ [] =
      ap (text form (Some head)) rest.1
      ∙ (text_stays form (Some head) (shown_to answers first (n + 1)) rest.0 now_changed ∙ (text_next ∙ ap (λ xs. so ++ xs) nothing)) in (
        ap (changes_size form) rest.1 ∙ change_stays form (shown_to answers first (n + 1)) rest.0 now_changed,
        subst P (sym same) (appends_both before now written so [] h.writes (front_of_none now written one nothing w)),
      )
