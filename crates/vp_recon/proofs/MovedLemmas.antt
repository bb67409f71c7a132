-- A block that is moved, as a whole or subblock after subblock.
use Rattle.std.proofs.Common.{◌≡◌, ◌∙◌, ℕ, ◌+◌, ◌*◌, ◌/◌, ◌%◌, ◌<◌, ◌≤◌, ℤ, pos, negsuc, ◌+ℤ◌, ◌-ℤ◌, ◌*ℤ◌, neg_ℤ, int_div, suc, Bool, false, cond, ltb, List, [], ◌∷◌, map, get_or, sym, ap, arith}
use Rattle.vp_recon.proofs.Words.{Raster, with_block, with_block_same, is_split, Vector, MacroblockMotion, AreOne, last_of, zero_vector, PlaneVector, reference_pixel, fraction, whole_pixels, luma_vector, taps, filter_six, moved_pixel, four_from, AreVectors, vector_at, sub_of_quarter, get_or-replicate, ints, ne_eqb, nat_tests}
use Rattle.vp_inter.specs.Inter.{horizontal_pass, inter_pixel}
use Rattle.vp_inter.specs.Vectors.{first_tap, mean_of_four, chroma_eighths, chroma_vector}
use Rattle.vp_recon.specs.Prediction.{luma_moved, chroma_moved}
use Rattle.vp_recon.proofs.Parts.{sub_at, sub_below}

moved_at : (version : ℕ) (reference : Raster) (vector : ℕ → PlaneVector) (x y n r c x' y' n' r' c' : ℕ)
    → x ≡ x' → y ≡ y' → n ≡ n' → r ≡ r' → c ≡ c' → inter_pixel version reference x y (vector n) r c ≡ inter_pixel version reference x' y' (vector n') r' c'
moved_at version reference vector x y n r c x' y' n' r' c' ex ey en er ec = cc

-- a pixel of subblock k
pub moved_part : (version : ℕ) (reference : Raster) (x y : ℕ) (vector : ℕ → PlaneVector) (k r c : ℕ) → r < 4 → c < 4
    → inter_pixel version reference (x + 4 * (k % 2)) (y + 4 * (k / 2)) (vector k) r c ≡ moved_pixel version reference x y 2 vector (4 * (k / 2) + r) (4 * (k % 2) + c)
moved_part version reference x y vector k r c rin cin =
    moved_at version reference vector (x + 4 * (k % 2)) (y + 4 * (k / 2)) k r c
    (x + 4 * ((4 * (k % 2) + c) / 4)) (y + 4 * ((4 * (k / 2) + r) / 4)) (sub_at 2 (4 * (k / 2) + r) (4 * (k % 2) + c)) ((4 * (k / 2) + r) % 4) ((4 * (k % 2) + c) % 4)
    (omega arith) (omega arith) (omega arith) (omega arith) (omega arith)

-- a pixel of a quarter of luma
pub moved_quarter : (version : ℕ) (reference : Raster) (x y : ℕ) (vector : ℕ → PlaneVector) (n r c : ℕ) → r < 8 → c < 8
    → moved_pixel version reference (x + 8 * (n % 2)) (y + 8 * (n / 2)) 2 (λ k. vector (sub_of_quarter n k)) r c
    ≡ moved_pixel version reference x y 4 vector (8 * (n / 2) + r) (8 * (n % 2) + c)
moved_quarter version reference x y vector n r c rin cin =
    moved_at version reference vector
    (x + 8 * (n % 2) + 4 * (c / 4)) (y + 8 * (n / 2) + 4 * (r / 4)) (sub_of_quarter n (2 * (r / 4) + c / 4)) (r % 4) (c % 4)
    (x + 4 * ((8 * (n % 2) + c) / 4)) (y + 4 * ((8 * (n / 2) + r) / 4)) (4 * ((8 * (n / 2) + r) / 4) + (8 * (n % 2) + c) / 4) ((8 * (n / 2) + r) % 4) ((8 * (n % 2) + c) % 4)
    (omega arith) (omega arith) (omega arith) (omega arith) (omega arith)

-- by the vectors of a list
pub moved_same : (version : ℕ) (reference : Raster) (x y : ℕ) (vectors : List PlaneVector) (vector : ℕ → PlaneVector) (r c : ℕ) → AreVectors 4 vectors vector → r < 8 → c < 8
    → moved_pixel version reference x y 2 (vector_at vectors) r c ≡ moved_pixel version reference x y 2 vector r c
moved_same version reference x y vectors vector r c are rin cin =
    ap (λ (w : PlaneVector). inter_pixel version reference (x + 4 * (c / 4)) (y + 4 * (r / 4)) w (r % 4) (c % 4)) (are (sub_at 2 r c) (omega arith))

-- ---- a block that moves as a whole

six_same : (weights : List ℤ) (f g : ℕ → ℕ) → ((k : ℕ) → f k ≡ g k) → filter_six weights f ≡ filter_six weights g
six_same weights f g same = cc (same 0, same 1, same 2, same 3, same 4, same 5)

start_on : (x a c j : ℕ) (e : ℤ) → first_tap (x + a) e +ℤ pos (c + j) ≡ first_tap x e +ℤ pos (a + c + j)
unfolding first_tap
start_on x a c j e = omega (arith, ints)

top_on : (y b i : ℕ) (e : ℤ) → first_tap (y + b) e +ℤ pos i ≡ first_tap y e +ℤ pos (b + i)
unfolding first_tap
top_on y b i e = omega (arith, ints)

across_on : (weights : List ℤ) (p : Raster) (x y a b i c : ℕ) (e f : ℤ)
    → horizontal_pass weights p (first_tap (x + a) e) (first_tap (y + b) f) i c ≡ horizontal_pass weights p (first_tap x e) (first_tap y f) (b + i) (a + c)
unfolding horizontal_pass
across_on weights p x y a b i c e f =
    six_same weights (λ (k : ℕ). reference_pixel p (first_tap (x + a) e +ℤ pos (c + k)) (first_tap (y + b) f +ℤ pos i))
    (λ (k : ℕ). reference_pixel p (first_tap x e +ℤ pos (a + c + k)) (first_tap y f +ℤ pos (b + i)))
    (λ k. ap (λ (z : ℤ). reference_pixel p z (first_tap (y + b) f +ℤ pos i)) (start_on x a c k e)
    ∙ ap (reference_pixel p (first_tap x e +ℤ pos (a + c + k))) (top_on y b i f))

-- a block's part is predicted as the whole is
inter_part : (version : ℕ) (p : Raster) (x y a b : ℕ) (v : PlaneVector) (r c : ℕ)
    → inter_pixel version p (x + a) (y + b) v r c ≡ inter_pixel version p x y v (b + r) (a + c)
unfolding inter_pixel
inter_part version p x y a b v r c =
    let weights : List ℤ = taps version (fraction v.column) in
    six_same (taps version (fraction v.row))
    (λ (k : ℕ). horizontal_pass weights p (first_tap (x + a) v.column) (first_tap (y + b) v.row) (r + k) c)
    (λ (k : ℕ). horizontal_pass weights p (first_tap x v.column) (first_tap y v.row) (b + r + k) (a + c))
    (λ k. across_on weights p x y a b (r + k) c v.column v.row
    ∙ ap (λ (i : ℕ). horizontal_pass weights p (first_tap x v.column) (first_tap y v.row) i (a + c)) (let e : b + (r + k) ≡ b + r + k = omega arith in e))

-- all subblocks move as the first one
pub moved_alike : (version : ℕ) (reference : Raster) (x y n : ℕ) (vector : ℕ → PlaneVector) (r c : ℕ) → vector (sub_at n r c) ≡ vector 0
    → inter_pixel version reference x y (vector 0) r c ≡ moved_pixel version reference x y n vector r c
moved_alike version reference x y n vector r c same =
    ap (λ (i : ℕ). inter_pixel version reference x y (vector 0) i c) (let e : r ≡ 4 * (r / 4) + r % 4 = omega arith in e)
    ∙ ap (inter_pixel version reference x y (vector 0) (4 * (r / 4) + r % 4)) (let e : c ≡ 4 * (c / 4) + c % 4 = omega arith in e)
    ∙ sym (inter_part version reference x y (4 * (c / 4)) (4 * (r / 4)) (vector 0) (r % 4) (c % 4))
    ∙ ap (λ (w : PlaneVector). inter_pixel version reference (x + 4 * (c / 4)) (y + 4 * (r / 4)) w (r % 4) (c % 4)) (sym same)

pub whole_block : (version : ℕ) (reference p : Raster) (x y across : ℕ) (vector : ℕ → PlaneVector) → ((k : ℕ) → k < across * across → vector k ≡ vector 0)
    → with_block p x y (4 * across) (4 * across) (inter_pixel version reference x y (vector 0)) ≡ with_block p x y (4 * across) (4 * across) (moved_pixel version reference x y across vector)
whole_block version reference p x y across vector same =
    with_block_same p x y (4 * across) (4 * across) (inter_pixel version reference x y (vector 0)) (moved_pixel version reference x y across vector)
    (λ r c rin cin. moved_alike version reference x y across vector r c (same (sub_at across r c) (sub_below across r c rin cin)))

-- ---- a macroblock that isn't split

module _ (e : MacroblockMotion) (one : AreOne e.mode e.vectors) (whole : is_split e.mode ≡ false) where
  all_last : (k : ℕ) (none : Vector) → k < 16 → get_or e.vectors k none ≡ last_of e.vectors
  all_last k none below = ap (λ (vs : List Vector). get_or vs k none) (one whole) ∙ get_or-replicate 16 k (last_of e.vectors) none below

  four_last : (k : ℕ) → k ≤ 10 → let v : Vector = last_of e.vectors in four_from e.vectors k ≡ v ∷ v ∷ v ∷ v ∷ []
  four_last k below =
      cc (all_last (k + 0) zero_vector (omega arith), all_last (k + 1) zero_vector (omega arith), all_last (k + 4) zero_vector (omega arith), all_last (k + 5) zero_vector (omega arith))

  pub luma_one : (k : ℕ) → k < 16 → luma_moved e k ≡ luma_moved e 0
  unfolding luma_moved
  luma_one k below = ap (λ (w : Vector). luma_vector w.row w.column) (all_last k zero_vector below ∙ sym (all_last 0 zero_vector (omega arith)))

  pub chroma_one : (version k : ℕ) → k < 4 → chroma_moved version e k ≡ chroma_moved version e 0
  unfolding chroma_moved
  chroma_one version k below =
      ap (λ (vs : List Vector). chroma_vector version (map (λ w. w.row) vs) (map (λ w. w.column) vs)) (four_last (8 * (k / 2) + 2 * (k % 2)) (omega arith) ∙ sym (four_last 0 (omega arith)))

-- the mean of four equal numbers
mean_of_equal : (r : ℤ) → mean_of_four ((r +ℤ r) +ℤ (r +ℤ r)) ≡ r
unfolding mean_of_four
mean_of_equal (pos n) =
    let s : ℕ = (n + n) + (n + n) in
    let none : ltb s 0 ≡ false = grind (arith, nat_tests) in
    ap (λ (b : Bool). cond b (int_div (pos s -ℤ pos 2) (pos 4)) (int_div (pos s +ℤ pos 2) (pos 4))) none
    ∙ ap pos (let e : (s + 2) / 4 ≡ n = omega arith in e)
mean_of_equal (negsuc n) =
    ap (λ (q : ℕ). neg_ℤ (pos q)) (let e : suc (suc (suc (suc (n + n) + suc (n + n)) + 1)) / 4 ≡ suc n = omega arith in e)

eighths_of_equal : (version : ℕ) (r : ℤ) → (version ≡ 3 → ⊥) → chroma_eighths version (r ∷ r ∷ r ∷ r ∷ []) ≡ r
unfolding chroma_eighths
eighths_of_equal version r other =
    let mean : ℤ = mean_of_four ((r +ℤ r) +ℤ (r +ℤ r)) in
    ap (λ (b : Bool). cond b (whole_pixels mean *ℤ pos 8) mean) (ne_eqb version 3 other) ∙ mean_of_equal r

-- the chroma vector is the luma vector, but in version 3
pub chroma_whole : (version : ℕ) (e : MacroblockMotion) (v none : Vector) → AreOne e.mode e.vectors → is_split e.mode ≡ false → (version ≡ 3 → ⊥) → get_or e.vectors 0 none ≡ v
    → let p : PlaneVector = record { row = v.row; column = v.column } in p ≡ chroma_moved version e 0
unfolding chroma_moved chroma_vector
chroma_whole version e v none one whole other first =
    let same : v ≡ last_of e.vectors = sym first ∙ all_last e one whole 0 none (omega arith) in
    let made : ℤ → ℤ → PlaneVector = λ y x. record { row = y; column = x } in
    ap (λ (y : ℤ). made y v.column) (sym (eighths_of_equal version v.row other))
    ∙ ap (λ (x : ℤ). made (chroma_eighths version (v.row ∷ v.row ∷ v.row ∷ v.row ∷ [])) x) (sym (eighths_of_equal version v.column other))
    ∙ ap (λ (w : Vector). chroma_vector version (map (λ u. u.row) (w ∷ w ∷ w ∷ w ∷ [])) (map (λ u. u.column) (w ∷ w ∷ w ∷ w ∷ []))) same
    ∙ ap (λ (vs : List Vector). chroma_vector version (map (λ w. w.row) vs) (map (λ w. w.column) vs)) (sym (four_last e one whole 0 (omega arith)))
