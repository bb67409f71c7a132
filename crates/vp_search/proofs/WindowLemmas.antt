-- Lemmas on the window that is searched.
use Rattle.std.proofs.Common.{◌≡◌, ℕ, ℤ, pos, ◌+◌, ◌*◌, ◌/◌, ◌<◌, ◌≤◌, ◌+ℤ◌, ◌-ℤ◌, ◌*ℤ◌, List, length, get_or, refl, sym, ap, ap₂, subst, inl, inr, ◌∙◌, arith}
use Rattle.std.specs.Prelude.{unsigned_abs}
use Rattle.std.proofs.lemmas.Int.{ints}
use Rattle.vp_base.specs.declared.place.Place.{Place}
use Rattle.vp_base.specs.Raster.{Raster, row_of}
use Rattle.vp_inter.specs.Vectors.{whole_pixels, fraction, first_tap, luma_vector}
use Rattle.std.proofs.lemmas.Bool.{cases_lt}
use Rattle.vp_inter.specs.Inter.{nearest, reference_pixel}
use Rattle.vp_inter.proofs.ReferenceLemmas.{line_beyond}
use Rattle.vp_inter.proofs.PassLemmas.{inter_whole}
use Rattle.vp_inter.proofs.FilteredLemmas.{whole_is, fraction_is}
use Rattle.vp_search.specs.declared.vector.WholeVector.{WholeVector}
use Rattle.vp_search.specs.declared.vector.QuarterVector.{QuarterVector}
use Rattle.vp_search.specs.declared.window.TheConstants.{WINDOW_WIDTH}
use Rattle.vp_search.specs.Vectors.{quarters, IsNear}
use Rattle.vp_search.specs.Differences.{sum_of_differences, strided_block, block16}
use Rattle.vp_search.specs.Blocks.{moved_block, predicted_block, whole_cost, quarter_cost}
use Rattle.vp_search.specs.Least.{IsNoWorse, IsLeast}
use Rattle.vp_search.specs.Window.{searched_pixel, vector_at, window_place, window_cost}
use Rattle.vp_search.proofs.SumLemmas.{sum_of_differences-same}
use Rattle.vp_search.proofs.OrderLemmas.{index}

-- the cost of the vector at a place of the window
pub cost_at : (block window : List ℕ) (range i j : ℕ) → window_cost block window range (vector_at range i j) ≡ sum_of_differences 16 16 (strided_block block 0 16) (strided_block window (i * WINDOW_WIDTH + j) WINDOW_WIDTH)
unfolding window_cost
cost_at block window range i j =
    let r : unsigned_abs (pos i -ℤ pos range +ℤ pos range) ≡ i = omega (arith, ints) in
    let c : unsigned_abs (pos j -ℤ pos range +ℤ pos range) ≡ j = omega (arith, ints) in
    ap₂ (λ x y. sum_of_differences 16 16 (strided_block block 0 16) (strided_block window (x * WINDOW_WIDTH + y) WINDOW_WIDTH)) r c

-- the square of the window is filled
abbrev pub IsFilled : List ℕ → Raster → Place → ℕ → Type 0
IsFilled window p place range = (i j : ℕ) → i < 2 * range + 16 → j < 2 * range + 16 → get_or window (i * WINDOW_WIDTH + j) 0 ≡ searched_pixel p place range i j

-- the pixels of a vector's block in the window are those that it moves
pub window_pixel : (window : List ℕ) (p : Raster) (place : Place) (range : ℕ) (v : WholeVector) → IsFilled window p place range → IsNear range v
    → (r c : ℕ) → r < 16 → c < 16 → strided_block window (window_place range v) WINDOW_WIDTH r c ≡ moved_block p place v r c
window_pixel window p place range v filled near r c rin cin =
    let x = index range v.row near.0 in
    let y = index range v.column near.1 in
    let i : ℕ = x.at in let j : ℕ = y.at in
    let e : unsigned_abs (v.row +ℤ pos range) ≡ i = omega (arith, ints) in
    let f : unsigned_abs (v.column +ℤ pos range) ≡ j = omega (arith, ints) in
    let at : window_place range v + r * WINDOW_WIDTH + c ≡ (i + r) * WINDOW_WIDTH + (j + c) = omega arith in
    let column : pos (16 * place.column + (j + c)) -ℤ pos range ≡ pos (16 * place.column + c) +ℤ v.column = omega (arith, ints) in
    let row : pos (16 * place.row + (i + r)) -ℤ pos range ≡ pos (16 * place.row + r) +ℤ v.row = omega (arith, ints) in
    ap (λ (k : ℕ). get_or window k 0) at
    ∙ filled (i + r) (j + c) (omega arith) (omega arith)
    ∙ ap₂ (reference_pixel p) column row

-- so their costs are the same
pub window_cost-whole : (block window : List ℕ) (p : Raster) (place : Place) (range : ℕ) (v : WholeVector) → IsFilled window p place range → IsNear range v
    → window_cost block window range v ≡ whole_cost (block16 block) p place v
unfolding window_cost whole_cost
window_cost-whole block window p place range v filled near =
    sum_of_differences-same 16 16 (strided_block block 0 16) (block16 block) (strided_block window (window_place range v) WINDOW_WIDTH) (moved_block p place v)
    (λ r c h k. let e : 0 + r * 16 + c ≡ r * 16 + c = omega arith in ap (λ (i : ℕ). get_or block i 0) e)
    (window_pixel window p place range v filled near)

-- the least by one cost is the least by another that is the same within range
pub least_same : (range : ℕ) (f g : WholeVector → ℕ) (best : WholeVector) → ((v : WholeVector) → IsNear range v → f v ≡ g v) → IsLeast range f best → IsLeast range g best
least_same range f g best same p = record {
  near = p.near;
  least = λ v h. subst (λ (k : ℕ). IsNoWorse k best (g v) v) (same best p.near) (subst (λ (k : ℕ). IsNoWorse (f best) best k v) (same v h) (p.least v h));
}

-- ---- a vector in whole pixels as a vector in quarters

eighths : (z : ℤ) → pos 2 *ℤ (pos 4 *ℤ z) ≡ pos 8 *ℤ z +ℤ pos 0
eighths z = omega (arith, ints)

whole_eight : (z : ℤ) → whole_pixels (pos 2 *ℤ (pos 4 *ℤ z)) ≡ z
whole_eight z = ap whole_pixels (eighths z) ∙ whole_is z 0 ∙ (let e : z +ℤ pos (0 / 8) ≡ z = omega (arith, ints) in e)

fraction_eight : (z : ℤ) → fraction (pos 2 *ℤ (pos 4 *ℤ z)) ≡ 0
fraction_eight z = ap fraction (eighths z) ∙ fraction_is z 0

start_eight : (at k : ℕ) (z : ℤ) → first_tap at (pos 2 *ℤ (pos 4 *ℤ z)) +ℤ pos 2 +ℤ pos k ≡ pos (at + k) +ℤ z
unfolding first_tap
start_eight at k z = let e = whole_eight z in omega (arith, ints)

-- what it predicts is what it moves, where that are bytes
pub predicted_whole : (p : Raster) (place : Place) (v : WholeVector) (r c : ℕ) → moved_block p place v r c ≤ 255
    → moved_block p place v r c ≡ predicted_block p place (quarters v) r c
unfolding luma_vector
predicted_whole p place v r c byte =
    let column : first_tap (16 * place.column) (pos 2 *ℤ (pos 4 *ℤ v.column)) +ℤ pos 2 +ℤ pos c ≡ pos (16 * place.column + c) +ℤ v.column = start_eight (16 * place.column) c v.column in
    let row : first_tap (16 * place.row) (pos 2 *ℤ (pos 4 *ℤ v.row)) +ℤ pos 2 +ℤ pos r ≡ pos (16 * place.row + r) +ℤ v.row = start_eight (16 * place.row) r v.row in
    let same = ap₂ (reference_pixel p) column row in
    sym same
    ∙ inter_whole 0 p (16 * place.column) (16 * place.row) (luma_vector (pos 4 *ℤ v.row) (pos 4 *ℤ v.column)) r c (fraction_eight v.row) (fraction_eight v.column)
    (subst (λ (n : ℕ). n ≤ 255) (sym same) byte)

pub quarter_cost-whole : (f : ℕ → ℕ → ℕ) (p : Raster) (place : Place) (v : WholeVector) → ((r c : ℕ) → r < 16 → c < 16 → moved_block p place v r c ≤ 255)
    → whole_cost f p place v ≡ quarter_cost f p place (quarters v)
unfolding whole_cost quarter_cost
quarter_cost-whole f p place v bytes =
    sum_of_differences-same 16 16 f f (moved_block p place v) (predicted_block p place (quarters v)) (λ r c h k. refl)
    (λ r c h k. predicted_whole p place v r c (bytes r c h k))

-- ---- a block that was cut

pub whole_cost-same : (f g : ℕ → ℕ → ℕ) (p : Raster) (place : Place) (v : WholeVector) → ((r c : ℕ) → r < 16 → c < 16 → f r c ≡ g r c)
    → whole_cost f p place v ≡ whole_cost g p place v
unfolding whole_cost
whole_cost-same f g p place v same = sum_of_differences-same 16 16 f g (moved_block p place v) (moved_block p place v) same (λ r c h k. refl)

pub quarter_cost-same : (f g : ℕ → ℕ → ℕ) (p : Raster) (place : Place) (v : QuarterVector) → ((r c : ℕ) → r < 16 → c < 16 → f r c ≡ g r c)
    → quarter_cost f p place v ≡ quarter_cost g p place v
unfolding quarter_cost
quarter_cost-same f g p place v same = sum_of_differences-same 16 16 f g (predicted_block p place v) (predicted_block p place v) same (λ r c h k. refl)

-- one row more of the window
pub filled_more : (p : Raster) (place : Place) (range i : ℕ) (old new line : List ℕ) (left top : ℤ) → range ≤ 64 → 0 < p.width
    → line ≡ row_of p (nearest p.height top) → length line ≡ p.width
    → left ≡ pos (16 * place.column) -ℤ pos range → top ≡ pos (16 * place.row + i) -ℤ pos range
    → ((k j : ℕ) → k < i → j < 2 * range + 16 → get_or old (k * WINDOW_WIDTH + j) 0 ≡ searched_pixel p place range k j)
    → ((j : ℕ) → j < 2 * range + 16 → get_or new (i * WINDOW_WIDTH + j) 0 ≡ get_or line (nearest (length line) (left +ℤ pos j)) 0)
    → ((k : ℕ) → k < i * WINDOW_WIDTH → get_or new k 0 ≡ get_or old k 0)
    → (k j : ℕ) → k < i + 1 → j < 2 * range + 16 → get_or new (k * WINDOW_WIDTH + j) 0 ≡ searched_pixel p place range k j
filled_more p place range i old new line left top small wide e long el et done here before k j kin jin =
    elim (cases_lt k i) [
      | inl less ↦ before (k * WINDOW_WIDTH + j) (omega arith) ∙ done k j less jin
      | inr more ↦
          let same : k ≡ i = omega arith in
          let column : left +ℤ pos j ≡ pos (16 * place.column + j) -ℤ pos range = omega (arith, ints) in
          ap (λ (n : ℕ). get_or new (n * WINDOW_WIDTH + j) 0) same
          ∙ here j jin
          ∙ line_beyond p line (left +ℤ pos j) top e long wide
          ∙ ap₂ (reference_pixel p) column et
          ∙ ap (λ (n : ℕ). searched_pixel p place range n j) (sym same)
    ]
