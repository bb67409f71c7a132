-- The three planes of a picture that is read.
use Rattle.std.proofs.Common.{◌≡◌, ◌∙◌, ℕ, ◌+◌, ◌*◌, ◌/◌, List, ◌++◌, length, Option, ap, length-append, mul_comm, arith}
use Rattle.std.proofs.KnownBytes.{Consumes-trans}
use Rattle.vp_base.specs.Raster.{Raster, pixel, blank}
use Rattle.vp_base.specs.Block.{numbers}
use Rattle.vp_base.specs.Image.{Image, plane_of, blank_image, i420}
use Rattle.vp_base.proofs.BlockLemmas.{length-numbers, pixel-blank}
use Rattle.vp_y4m.specs.declared.fault.SourceFault.{SourceFault}
use Rattle.vp_y4m.specs.Text.{i420_length}
use Rattle.vp_y4m.specs.Pictures.{StopsShort}
use Rattle.vp_y4m.specs.Pixels.{ReadsRows, ReadsPicture, IsZeroBeyond}
use Rattle.vp_y4m.proofs.PixelLemmas.{short_more}

-- a plane of zeros stays so beyond what was read
zero_beyond : (w h k pw ph : ℕ) (old new : Image) (b c : Option (List ℕ)) → plane_of old k ≡ blank pw ph 0 → ReadsRows w h k old new b c → IsZeroBeyond w h (plane_of new k)
zero_beyond w h k pw ph old new b c e r x y xin yin out =
    let pwide : (plane_of old k).width ≡ pw = ap (λ (q : Raster). q.width) e in
    let ptall : (plane_of old k).height ≡ ph = ap (λ (q : Raster). q.height) e in
    let rw1 = r.width in
    let rh1 = r.height in
    r.beyond x y (omega arith) (omega arith) out ∙ ap (λ (q : Raster). pixel q x y) e ∙ pixel-blank pw ph 0 x y (omega arith) (omega arith)

length-plane : (w h k : ℕ) (p : Image) → length (numbers w h (pixel (plane_of p k))) ≡ h * w
length-plane w h k p = length-numbers w h (pixel (plane_of p k))

pub short_second : (w h : ℕ) (f : SourceFault) (old p q : Image) (a b c : Option (List ℕ)) → ReadsRows w h 0 old p a b → StopsShort ((h + 1) / 2 * ((w + 1) / 2)) f b c → StopsShort (i420_length w h) f a c
short_second w h f old p q a b c r s =
    let l = length-plane w h 0 p in
    let m : h * w ≡ w * h = omega (arith, mul_comm h w) in
    let n : (h + 1) / 2 * ((w + 1) / 2) ≡ (w + 1) / 2 * ((h + 1) / 2) = mul_comm ((h + 1) / 2) ((w + 1) / 2) in
    short_more ((h + 1) / 2 * ((w + 1) / 2)) (i420_length w h) f a b c (numbers w h (pixel p.luma)) r.consumed (omega arith) s

pub short_third : (w h : ℕ) (f : SourceFault) (old p q : Image) (a b c d : Option (List ℕ)) → p.width ≡ w → p.height ≡ h → ReadsRows w h 0 old p a b → ReadsRows ((p.width + 1) / 2) ((p.height + 1) / 2) 1 p q b c
    → StopsShort ((h + 1) / 2 * ((w + 1) / 2)) f c d → StopsShort (i420_length w h) f a d
short_third w h f old p q a b c d ew eh r t s =
    let l = length-plane w h 0 p in
    let o = length-plane ((w + 1) / 2) ((h + 1) / 2) 1 q in
    let m : h * w ≡ w * h = mul_comm h w in
    let n : (h + 1) / 2 * ((w + 1) / 2) ≡ (w + 1) / 2 * ((h + 1) / 2) = mul_comm ((h + 1) / 2) ((w + 1) / 2) in
    short_more ((h + 1) / 2 * ((w + 1) / 2)) (i420_length w h) f a c d (numbers w h (pixel p.luma) ++ numbers ((w + 1) / 2) ((h + 1) / 2) (pixel q.u))
    (Consumes-trans a b c (numbers w h (pixel p.luma)) (numbers ((w + 1) / 2) ((h + 1) / 2) (pixel q.u)) r.consumed (rw (ew, eh) at t.consumed))
    (simp length-append (omega arith)) s

-- luma and both planes of colour
pub picture_read : (old p q new : Image) (a b c d : Option (List ℕ)) → old ≡ blank_image old.width old.height 0 → ReadsRows old.width old.height 0 old p a b
    → ReadsRows ((p.width + 1) / 2) ((p.height + 1) / 2) 1 p q b c → ReadsRows ((q.width + 1) / 2) ((q.height + 1) / 2) 2 q new c d → ReadsPicture old new a d
unfolding i420
picture_read old p q new a b c d e r s t =
    let w1 : p.width ≡ old.width = ap (λ (i : Image). i.width) r.kept in
    let h1 : p.height ≡ old.height = ap (λ (i : Image). i.height) r.kept in
    let w2 : q.width ≡ old.width = ap (λ (i : Image). i.width) s.kept ∙ w1 in
    let h2 : q.height ≡ old.height = ap (λ (i : Image). i.height) s.kept ∙ h1 in
    let w3 : new.width ≡ old.width = ap (λ (i : Image). i.width) t.kept ∙ w2 in
    let h3 : new.height ≡ old.height = ap (λ (i : Image). i.height) t.kept ∙ h2 in
    let luma : new.luma ≡ p.luma = ap (λ (i : Image). i.luma) t.kept ∙ ap (λ (i : Image). i.luma) s.kept in
    let u : new.u ≡ q.u = ap (λ (i : Image). i.u) t.kept in
    let u0 : p.u ≡ old.u = ap (λ (i : Image). i.u) r.kept in
    let v0 : q.v ≡ old.v = ap (λ (i : Image). i.v) s.kept ∙ ap (λ (i : Image). i.v) r.kept in
    record {
      consumed = rw (w3, h3, luma, u) (Consumes-trans a c d (numbers old.width old.height (pixel p.luma) ++ numbers ((old.width + 1) / 2) ((old.height + 1) / 2) (pixel q.u)) (numbers ((old.width + 1) / 2) ((old.height + 1) / 2) (pixel new.v))
          (Consumes-trans a b c (numbers old.width old.height (pixel p.luma)) (numbers ((old.width + 1) / 2) ((old.height + 1) / 2) (pixel q.u)) r.consumed (rw (w1, h1) at s.consumed)) (rw (w2, h2) at t.consumed));
      width = w3;
      height = h3;
      outside = record {
        luma = rw (w3, h3, luma) (zero_beyond old.width old.height 0 _ _ old p a b (ap (λ (i : Image). i.luma) e) r);
        u = rw (w3, h3, u) (rw (w1, h1) at (zero_beyond ((p.width + 1) / 2) ((p.height + 1) / 2) 1 _ _ p q b c (u0 ∙ ap (λ (i : Image). i.u) e) s));
        v = rw (w3, h3) (rw (w2, h2) at (zero_beyond ((q.width + 1) / 2) ((q.height + 1) / 2) 2 _ _ q new c d (v0 ∙ ap (λ (i : Image). i.v) e) t));
      };
    }

pub length-i420 : (p : Image) → length (i420 p) ≡ i420_length p.width p.height
unfolding i420
length-i420 p =
    let l = length-plane p.width p.height 0 p in
    let m = length-plane ((p.width + 1) / 2) ((p.height + 1) / 2) 1 p in
    let n = length-plane ((p.width + 1) / 2) ((p.height + 1) / 2) 2 p in
    let s : p.height * p.width ≡ p.width * p.height = mul_comm p.height p.width in
    let t : (p.height + 1) / 2 * ((p.width + 1) / 2) ≡ (p.width + 1) / 2 * ((p.height + 1) / 2) = mul_comm ((p.height + 1) / 2) ((p.width + 1) / 2) in
    simp length-append (omega arith)
