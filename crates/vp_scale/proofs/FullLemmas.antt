-- A picture in its own size stays as it is.
use Rattle.std.proofs.Common.{◌≡◌, ◌∙◌, ℕ, ◌+◌, ◌-◌, ◌*◌, ◌<◌, ◌≤◌, List, [], ◌∷◌, ◌++◌, length, take, drop, min, refl, sym, ap, arith, length-drop}
use Rattle.std.proofs.lemmas.List.{length-take, take-append-drop, take_all}
use Rattle.std.proofs.Math.Seq.{take-add}
use Rattle.vp_base.specs.Raster.{Raster, pixel}
use Rattle.vp_base.specs.Block.{numbers, IsWhole}
use Rattle.vp_base.proofs.BlockLemmas.{length-numbers, get_or-numbers, same_numbers}
use Rattle.vp_scale.specs.Scale.{scaled_side}
use Rattle.vp_scale.specs.Planes.{half, i420_size, plane_from}
use Rattle.vp_scale.specs.Means.{nearest, rounded_mean, mean_at, means, scaled_i420}

one_square : (f : ℕ → ℕ → ℕ) → numbers 1 1 f ≡ f 0 0 ∷ []
unfolding numbers
one_square f = refl

mean_of_one : (n : ℕ) → rounded_mean (n ∷ []) ≡ n
mean_of_one n = omega arith

pub mean_at_one : (p : Raster) (x y : ℕ) → x < p.width → y < p.height → mean_at 1 p x y ≡ pixel p x y
unfolding mean_at
mean_at_one p x y xin yin =
    ap rounded_mean (one_square (λ c r. nearest p (x * 1 + c) (y * 1 + r)))
    ∙ mean_of_one (nearest p (x * 1 + 0) (y * 1 + 0))
    ∙ (λ i. pixel p ((let t : min (x * 1 + 0) (p.width - 1) ≡ x = omega arith in t) i) ((let t : min (y * 1 + 0) (p.height - 1) ≡ y = omega arith in t) i))

side_one : (n : ℕ) → scaled_side 1 n ≡ n
side_one n = omega arith

means_one : (p : Raster) → IsWhole p → means 1 p ≡ p.pixels
means_one p whole =
    (λ i. numbers (side_one p.width i) (side_one p.height i) (mean_at 1 p))
    ∙ same_numbers p.width p.height (numbers p.width p.height (mean_at 1 p)) p.pixels (length-numbers p.width p.height (mean_at 1 p)) whole
    (λ x y xin yin. get_or-numbers p.width p.height (mean_at 1 p) x y xin yin ∙ mean_at_one p x y xin yin)

plane_whole : (i w h : ℕ) (bytes : List ℕ) → i + h * w ≤ length bytes → IsWhole (plane_from i w h bytes)
plane_whole i w h bytes fits =
    let d : length (drop i bytes) ≡ length bytes - i = length-drop i bytes in
    length-take (h * w) (drop i bytes) ∙ omega arith

-- three parts that follow one another
parts : (a b : ℕ) (bytes : List ℕ) → length bytes ≡ a + 2 * b → take a bytes ++ take b (drop a bytes) ++ take b (drop (a + b) bytes) ≡ bytes
parts a b bytes long =
    let rest : length (drop (a + b) bytes) ≡ b = length-drop (a + b) bytes ∙ omega arith in
    (λ i. sym (take-add a b bytes) i ++ take_all b (drop (a + b) bytes) (omega arith) i)
    ∙ take-append-drop (a + b) bytes

pub full : (w h : ℕ) (bytes : List ℕ) → length bytes ≡ i420_size w h → scaled_i420 1 w h bytes ≡ bytes
unfolding scaled_i420
full w h bytes long =
    let n : length bytes ≡ h * w + 2 * (half h * half w) = omega (arith, long) in
    (λ i. means_one (plane_from 0 w h bytes) (plane_whole 0 w h bytes (omega arith)) i
    ++ means_one (plane_from (h * w) (half w) (half h) bytes) (plane_whole (h * w) (half w) (half h) bytes (omega arith)) i
    ++ means_one (plane_from (h * w + half h * half w) (half w) (half h) bytes) (plane_whole (h * w + half h * half w) (half w) (half h) bytes (omega arith)) i)
    ∙ parts (h * w) (half h * half w) bytes n
