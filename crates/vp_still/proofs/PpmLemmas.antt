-- Rows that are appended one after another.
use Rattle.std.proofs.Common.{◌≡◌, ◌∙◌, ℕ, zero, suc, ◌+◌, ◌*◌, ◌/◌, List, [], ◌∷◌, ◌++◌, take, drop, ap, arith}
use Rattle.std.specs.Prelude.{slice_range}
use Rattle.std.specs.List.{flat_map, range_with_len}
use Rattle.std.proofs.lemmas.Grind.{flat_map-append, common_steps}
use Rattle.vp_base.specs.Raster.{row_of}
use Rattle.vp_scale.specs.Planes.{half, plane_from}
use Rattle.vp_still.specs.Ppm.{rgb_row, row_in}

range_more : (a n : ℕ) → range_with_len a (suc n) ≡ range_with_len a n ++ (a + n) ∷ []
range_more a zero = ap (λ (k : ℕ). k ∷ []) (let e : a ≡ a + 0 = omega arith in e)
range_more a (suc n) = ap (λ (ks : List ℕ). a ∷ ks) (range_more (a + 1) n ∙ ap (λ (k : ℕ). range_with_len (a + 1) n ++ k ∷ []) (let e : a + 1 + n ≡ a + suc n = omega arith in e))

-- one piece more
pub piece_more : (f : ℕ → List ℕ) (before out piece : List ℕ) (n : ℕ) → out ≡ before ++ flat_map f (range_with_len 0 n) → piece ≡ f n
    → out ++ piece ≡ before ++ flat_map f (range_with_len 0 (n + 1))
piece_more f before out piece n e same =
    let next : range_with_len 0 (n + 1) ≡ range_with_len 0 n ++ n ∷ [] =
    ap (λ (k : ℕ). range_with_len 0 k) (let s : n + 1 ≡ suc n = omega arith in s) ∙ (range_more 0 n ∙ ap (λ (k : ℕ). range_with_len 0 n ++ k ∷ []) (let z : 0 + n ≡ n = omega arith in z)) in
    let more : flat_map f (range_with_len 0 (n + 1)) ≡ flat_map f (range_with_len 0 n) ++ flat_map f (n ∷ []) =
    ap (λ (ks : List ℕ). flat_map f ks) next ∙ flat_map-append f (range_with_len 0 n) (n ∷ []) in
    grind (arith, common_steps, e, same, more)

-- a row of a plane that is cut out of the bytes of a picture
row_of_plane : (i w h width height y : ℕ) (bytes plane row : List ℕ) → width ≡ w → height ≡ h → plane ≡ take (height * width) (drop i bytes)
    → row ≡ slice_range plane (y * width) (y * width + width) → row ≡ row_of (plane_from i w h bytes) y
row_of_plane i w h width height y bytes plane row wide high is e =
    e ∙ (λ j. slice_range ((is ∙ (λ k. take (high k * wide k) (drop i bytes))) j) (y * wide j) (y * wide j + wide j))

-- the rows of the three planes
pub row_is : (w h width height y : ℕ) (bytes luma u v row u_row v_row : List ℕ) → width ≡ w → height ≡ h
    → luma ≡ take (height * width) (drop 0 bytes)
    → u ≡ take ((height + 1) / 2 * ((width + 1) / 2)) (drop (height * width) bytes)
    → v ≡ take ((height + 1) / 2 * ((width + 1) / 2)) (drop (height * width + (height + 1) / 2 * ((width + 1) / 2)) bytes)
    → row ≡ slice_range luma (y * width) (y * width + width)
    → u_row ≡ slice_range u (y / 2 * ((width + 1) / 2)) (y / 2 * ((width + 1) / 2) + (width + 1) / 2)
    → v_row ≡ slice_range v (y / 2 * ((width + 1) / 2)) (y / 2 * ((width + 1) / 2) + (width + 1) / 2)
    → rgb_row row u_row v_row ≡ row_in w h bytes y
row_is w h width height y bytes luma u v row u_row v_row wide high l_is u_is v_is r ur vr =
    let a = row_of_plane 0 w h width height y bytes luma row wide high l_is r in
    let hw : half width ≡ half w = ap half wide in
    let hh : half height ≡ half h = ap half high in
    let b = row_of_plane (h * w) (half w) (half h) (half width) (half height) (y / 2) bytes u u_row hw hh (u_is ∙ (λ j. take (half height * half width) (drop (high j * wide j) bytes))) ur in
    let c = row_of_plane (h * w + half h * half w) (half w) (half h) (half width) (half height) (y / 2) bytes v v_row hw hh (v_is ∙ (λ j. take (half height * half width) (drop (high j * wide j + hh j * hw j) bytes))) vr in
    (λ i. rgb_row (a i) (b i) (c i))
