-- The answer for one packet, as a value and as the packet step gives it.
use Rattle.std.proofs.Common.{◌≡◌, ℕ, ◌+◌, List, [], ◌∷◌, ◌++◌, length, Option, Some, None, refl, sym, ap, arith}
use Rattle.std.specs.Prelude.{slice_get}
use Rattle.vp_base.specs.declared.limits.Limits.{Limits}
use Rattle.vp_base.specs.Image.{Image, i420}
use Rattle.vp_head.specs.declared.fault.PacketFault.{PacketFault}
use Rattle.vp_ivf.specs.declared.packet.Packet.{Packet}
use Rattle.vp_ivf.specs.declared.packet.IvfHead.{IvfHead}
use Rattle.vp_decode.specs.Step.{Answer, Shown, Hidden, Fault, picture_in}
use Rattle.vp_stream.specs.declared.form.Form.{Form}
use Rattle.vp_stream.specs.declared.form.Form.TheVariants.{I420, Y4m}
use Rattle.vp_stream.specs.Answers.{answers_from}
use Rattle.vp_stream.specs.Seeking.{answer_values, answer_or_none, answer_at}
use Rattle.vp_stream.specs.Reports.{faults_from}
use Rattle.vp_stream.specs.Transcode.{PictureWriter, with_shown, fits_in, fits_shown, one_text_in, shown_text}
use Rattle.vp_stream.proofs.PictureLemmas.{length-i420}
use Rattle.vp_frames.specs.Pictures.{fits_size, pixels_text, with_answer, fits_answer, answer_text, faults_at, HasAllPixels}

pub with_answer_is : (s : PictureWriter) (a : Answer) → with_answer s (answer_values a) ≡ with_shown s (picture_in a)
with_answer_is s (Shown p) = refl
with_answer_is s Hidden = refl
with_answer_is s (Fault f) = refl

fits_size_is : (form : Form) (size : Option (ℕ × ℕ)) (p : Image) → fits_size form size p.width p.height ≡ fits_in form size p
fits_size_is I420 size p = refl
fits_size_is Y4m size p = refl

pub fits_answer_is : (s : PictureWriter) (a : Answer) → fits_answer s (answer_values a) ≡ fits_shown s (picture_in a)
fits_answer_is s (Shown p) = fits_size_is s.form s.size p
fits_answer_is s Hidden = refl
fits_answer_is s (Fault f) = refl

pixels_text_is : (form : Form) (size : Option (ℕ × ℕ)) (head : IvfHead) (p : Image) → pixels_text form size head p.width p.height (i420 p) ≡ one_text_in form size head p
pixels_text_is I420 size head p = refl
pixels_text_is Y4m size head p = refl

pub answer_text_is : (s : PictureWriter) (head : IvfHead) (a : Answer) → answer_text s head (answer_values a) ≡ shown_text s head (picture_in a)
answer_text_is s head (Shown p) = pixels_text_is s.form s.size head p
answer_text_is s head Hidden = refl
answer_text_is s head (Fault f) = refl

whole_by : (o : Option Answer) → HasAllPixels (answer_or_none o)
whole_by None = tt
whole_by (Some (Shown p)) = length-i420 p
whole_by (Some Hidden) = tt
whole_by (Some (Fault f)) = tt

-- a shown picture has all its pixels
pub whole_at : (limits : Limits) (packets : List Packet) (n : ℕ) → HasAllPixels (answer_at limits packets n)
whole_at limits packets n = whole_by (slice_get (answers_from limits None packets) n)

-- ---- the faults of more packets

fault_one : (first n : ℕ) (a : Answer) → n ≡ first → faults_from first (a ∷ []) ≡ faults_at n (answer_values a)
fault_one first n (Shown p) e = refl
fault_one first n Hidden e = refl
fault_one first n (Fault f) e = ap (λ k. (k, f) ∷ []) (sym e)

pub faults_more : (first n : ℕ) (answers : List Answer) (a : Answer) → n ≡ first + length answers
    → faults_from first (answers ++ a ∷ []) ≡ faults_from first answers ++ faults_at n (answer_values a)
faults_more first n [] a e = fault_one first n a (omega arith)
faults_more first n (Shown p ∷ answers) a e = faults_more (first + 1) n answers a (omega arith)
faults_more first n (Hidden ∷ answers) a e = faults_more (first + 1) n answers a (omega arith)
faults_more first n (Fault f ∷ answers) a e = ap (λ (fs : List (ℕ × PacketFault)). (first, f) ∷ fs) (faults_more (first + 1) n answers a (omega arith))
