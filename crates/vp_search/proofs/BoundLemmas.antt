-- Lower bounds of sums of differences, by sums of squares.
use Rattle.std.proofs.Common.{◌≡◌, ℕ, zero, suc, ◌+◌, ◌*◌, ◌/◌, ◌%◌, ◌<◌, ◌≤◌, List, get_or, refl, sym, ap, ap₂, ◌∙◌, subst, arith}
use Rattle.std.proofs.lemmas.Bool.Decides.{nat_tests}
use Rattle.std.specs.Int.{abs_diff}
use Rattle.vp_search.specs.declared.window.TheConstants.{WINDOW_WIDTH}
use Rattle.vp_search.specs.Sums.{sum_below}
use Rattle.vp_search.specs.Differences.{sum_of_differences, strided_block}
use Rattle.vp_search.specs.Window.{vector_at, window_cost}
use Rattle.vp_search.specs.declared.search_window.SearchWindow.{SearchWindow}
use Rattle.vp_search.specs.Search.{cost_in, AreAbove, AreBounds}
use Rattle.vp_search.specs.Bounds.{capped, column_sum, square_sum, block_sums, bound_of, IsSummed}
use Rattle.vp_search.proofs.SumLemmas.{sum_below-same, sum_below-add, sum_below-plus, sum_of_differences-same, sum_of_differences-add}
use Rattle.vp_search.proofs.WindowLemmas.{cost_at}

-- ---- one step
pub apart_add : (a b x y : ℕ) → abs_diff (a + b) (x + y) ≤ abs_diff a x + abs_diff b y
apart_add a b x y = grind (arith, nat_tests)

pub apart_capped : (a b : ℕ) → abs_diff (capped a) (capped b) ≤ abs_diff a b
apart_capped a b = grind (arith, nat_tests)

apart_none : (a : ℕ) → abs_diff a a ≡ 0
apart_none a = grind (arith, nat_tests)

pub sum_below-le : (n : ℕ) (f g : ℕ → ℕ) → ((k : ℕ) → k < n → f k ≤ g k) → sum_below n f ≤ sum_below n g
unfolding sum_below
sum_below-le zero f g all = omega arith
sum_below-le (suc n) f g all =
    let rest = sum_below-le n f g (λ k h. all k (omega arith)) in
    let last = all n (omega arith) in
    omega arith

pub apart_sums : (n : ℕ) (f g : ℕ → ℕ) → abs_diff (sum_below n f) (sum_below n g) ≤ sum_below n (λ k. abs_diff (f k) (g k))
unfolding sum_below
apart_sums zero f g = omega (arith, apart_none 0)
apart_sums (suc n) f g =
    let rest = apart_sums n f g in
    let step = apart_add (sum_below n f) (f n) (sum_below n g) (g n) in
    omega arith

sum_below-zeros : (n : ℕ) → sum_below n (λ c. 0) ≡ 0
unfolding sum_below
sum_below-zeros zero = refl
sum_below-zeros (suc n) = let e = sum_below-zeros n in omega arith

-- a sum of sums in the other order
pub sum_below-turned : (m n : ℕ) (f : ℕ → ℕ → ℕ) → sum_below n (λ c. sum_below m (λ r. f r c)) ≡ sum_below m (λ r. sum_below n (λ c. f r c))
unfolding sum_below
sum_below-turned zero n f = sum_below-zeros n
sum_below-turned (suc m) n f =
    sum_below-plus n (λ c. sum_below m (λ r. f r c)) (λ c. f m c)
    ∙ ap (λ k. k + sum_below n (λ c. f m c)) (sum_below-turned m n f)

-- ---- squares
column_apart : (a b : List ℕ) (x y s t : ℕ) → abs_diff (column_sum a x s) (column_sum b y t) ≤ sum_below 8 (λ r. abs_diff (get_or a (x + r * s) 0) (get_or b (y + r * t) 0))
unfolding column_sum
column_apart a b x y s t =
    let one = apart_capped (sum_below 8 (λ r. get_or a (x + r * s) 0)) (sum_below 8 (λ r. get_or b (y + r * t) 0)) in
    let two = apart_sums 8 (λ r. get_or a (x + r * s) 0) (λ r. get_or b (y + r * t) 0) in
    omega arith

-- two squares are no further apart than their pixels
pub square_apart : (a b : List ℕ) (x y s t : ℕ) → abs_diff (square_sum a x s) (square_sum b y t) ≤ sum_of_differences 8 8 (strided_block a x s) (strided_block b y t)
unfolding square_sum
square_apart a b x y s t =
    let pixel : ℕ → ℕ → ℕ = λ r c. abs_diff (get_or a (x + c + r * s) 0) (get_or b (y + c + r * t) 0) in
    let one = apart_capped (sum_below 8 (λ c. column_sum a (x + c) s)) (sum_below 8 (λ c. column_sum b (y + c) t)) in
    let two = apart_sums 8 (λ c. column_sum a (x + c) s) (λ c. column_sum b (y + c) t) in
    let three = sum_below-le 8 (λ c. abs_diff (column_sum a (x + c) s) (column_sum b (y + c) t)) (λ c. sum_below 8 (λ r. pixel r c)) (λ c h. column_apart a b (x + c) (y + c) s t) in
    let four : sum_below 8 (λ c. sum_below 8 (λ r. pixel r c)) ≡ sum_of_differences 8 8 (strided_block a x s) (strided_block b y t) =
    sum_below-turned 8 8 pixel
    ∙ sum_of_differences-same 8 8 (λ r c. get_or a (x + c + r * s) 0) (strided_block a x s) (λ r c. get_or b (y + c + r * t) 0) (strided_block b y t)
    (λ r c h k. let e : x + c + r * s ≡ x + r * s + c = omega arith in ap (λ i. get_or a i 0) e)
    (λ r c h k. let e : y + c + r * t ≡ y + r * t + c = omega arith in ap (λ i. get_or b i 0) e) in
    omega arith

-- eight rows of sixteen pixels as two squares
halves : (a b : List ℕ) (x y s t : ℕ) → sum_of_differences 8 16 (strided_block a x s) (strided_block b y t)
    ≡ sum_of_differences 8 8 (strided_block a x s) (strided_block b y t) + sum_of_differences 8 8 (strided_block a (x + 8) s) (strided_block b (y + 8) t)
halves a b x y s t =
    let pixel : ℕ → ℕ → ℕ = λ r c. abs_diff (strided_block a x s r c) (strided_block b y t r c) in
    sum_below-same 8 (λ r. sum_below 16 (pixel r)) (λ r. sum_below 8 (pixel r) + sum_below 8 (λ c. pixel r (8 + c))) (λ r h. sum_below-add 8 8 (pixel r))
    ∙ sum_below-plus 8 (λ r. sum_below 8 (pixel r)) (λ r. sum_below 8 (λ c. pixel r (8 + c)))
    ∙ ap (λ k. sum_below 8 (λ r. sum_below 8 (pixel r)) + k)
    (sum_of_differences-same 8 8 (λ r c. strided_block a x s r (8 + c)) (strided_block a (x + 8) s) (λ r c. strided_block b y t r (8 + c)) (strided_block b (y + 8) t)
    (λ r c h k. let e : x + r * s + (8 + c) ≡ x + 8 + r * s + c = omega arith in ap (λ i. get_or a i 0) e)
    (λ r c h k. let e : y + r * t + (8 + c) ≡ y + 8 + r * t + c = omega arith in ap (λ i. get_or b i 0) e))

-- a block of sixteen rows as four squares
quarters_of : (a b : List ℕ) (y t : ℕ) → sum_of_differences 16 16 (strided_block a 0 16) (strided_block b y t)
    ≡ sum_of_differences 8 8 (strided_block a 0 16) (strided_block b y t) + sum_of_differences 8 8 (strided_block a 8 16) (strided_block b (y + 8) t)
    + (sum_of_differences 8 8 (strided_block a 128 16) (strided_block b (y + 8 * t) t) + sum_of_differences 8 8 (strided_block a 136 16) (strided_block b (y + 8 * t + 8) t))
quarters_of a b y t =
    sum_of_differences-add a b 0 16 y t 8 8
    ∙ ap₂ (λ m n. m + n) (halves a b 0 y 16 t) (halves a b 128 (y + 8 * t) 16 t)

sums_capped : (a b c d w x y z : ℕ) → a ≤ w → b ≤ x → c ≤ y → d ≤ z → capped (capped (a + b) + capped (c + d)) ≤ w + x + (y + z)
sums_capped a b c d w x y z h i j k = omega arith

-- the bound of a place is at most its cost
pub bound_below : (block window sums squares : List ℕ) (range i j at : ℕ) → squares ≡ block_sums block → IsSummed window sums range → i ≤ 2 * range → j ≤ 2 * range → at ≡ i * WINDOW_WIDTH + j
    → bound_of squares sums at ≤ window_cost block window range (vector_at range i j)
unfolding bound_of
bound_below block window sums squares range i j at e all iin jin place =
    let part : (x y r c : ℕ) → y ≡ r * WINDOW_WIDTH + c → r ≤ 2 * range + 8 → c ≤ 2 * range + 8 → abs_diff (square_sum block x 16) (get_or sums y 0) ≤ sum_of_differences 8 8 (strided_block block x 16) (strided_block window y WINDOW_WIDTH) =
    λ x y r c same h k.
    subst (λ (n : ℕ). abs_diff (square_sum block x 16) n ≤ sum_of_differences 8 8 (strided_block block x 16) (strided_block window y WINDOW_WIDTH))
    (sym (ap (λ (n : ℕ). get_or sums n 0) same ∙ all r c h k ∙ ap (λ (n : ℕ). square_sum window n WINDOW_WIDTH) (sym same))) (square_apart block window x y 16 WINDOW_WIDTH) in
    let low = sums_capped _ _ _ _ _ _ _ _
    (part 0 at i j place (omega arith) (omega arith)) (part 8 (at + 8) i (j + 8) (omega arith) (omega arith) (omega arith))
    (part 128 (at + 8 * WINDOW_WIDTH) (i + 8) j (omega arith) (omega arith) (omega arith)) (part 136 (at + 8 * WINDOW_WIDTH + 8) (i + 8) (j + 8) (omega arith) (omega arith) (omega arith)) in
    let cost = ap (λ (n : ℕ). sum_of_differences 16 16 (strided_block block 0 16) (strided_block window n WINDOW_WIDTH)) place ∙ sym (cost_at block window range i j) in
    subst (λ (l : List ℕ). bound_of l sums at ≤ window_cost block window range (vector_at range i j)) (sym e)
    (subst (λ (n : ℕ). bound_of (block_sums block) sums at ≤ n) (sym (quarters_of block window at WINDOW_WIDTH) ∙ cost) low)

-- the bounds of eight places
pub bounds_are : (w : SearchWindow) (sums squares bounds : List ℕ) (i j : ℕ) → squares ≡ block_sums w.block.now → IsSummed w.pixels.now sums w.range → i ≤ 2 * w.range
    → ((t : ℕ) → t < 8 → get_or bounds t 0 ≡ bound_of squares sums (i * WINDOW_WIDTH + j + t)) → AreBounds w i j bounds
bounds_are w sums squares bounds i j e all iin here t h within =
    subst (λ (n : ℕ). n ≤ cost_in w (vector_at w.range i (j + t))) (sym (here t h))
    (bound_below w.block.now w.pixels.now sums squares w.range i (j + t) (i * WINDOW_WIDTH + j + t) e all iin within (omega arith))

-- groups of eight places whose bounds are above a limit
pub bounds_above : (w : SearchWindow) (sums squares : List ℕ) (i g m limit : ℕ) → squares ≡ block_sums w.block.now → IsSummed w.pixels.now sums w.range → i ≤ 2 * w.range
    → ((k t : ℕ) → g ≤ k → k < m → t < 8 → limit < bound_of squares sums (i * WINDOW_WIDTH + 8 * k + t))
    → AreAbove w limit i (8 * g) (8 * m)
bounds_above w sums squares i g m limit e all iin above j low high within =
    let at : i * WINDOW_WIDTH + 8 * (j / 8) + j % 8 ≡ i * WINDOW_WIDTH + j = omega arith in
    let over = above (j / 8) (j % 8) (omega arith) (omega arith) (omega arith) in
    let bound = bound_below w.block.now w.pixels.now sums squares w.range i j (i * WINDOW_WIDTH + 8 * (j / 8) + j % 8) e all iin within at in
    omega arith
