-- Lemmas on sums.
use Rattle.std.proofs.Common.{◌≡◌, ℕ, zero, suc, ◌+◌, ◌*◌, ◌<◌, ◌≤◌, List, [], ◌∷◌, length, get_or, refl, sym, ap, ap₂, ◌∙◌, arith}
use Rattle.std.specs.Int.{abs_diff}
use lib.Lanes.{sum_l}
use Rattle.vp_search.specs.Sums.{sum_below}
use Rattle.vp_search.specs.Differences.{sum_of_differences, strided_block}

pub sum_below-same : (n : ℕ) (f g : ℕ → ℕ) → ((k : ℕ) → k < n → f k ≡ g k) → sum_below n f ≡ sum_below n g
unfolding sum_below
sum_below-same zero f g same = refl
sum_below-same (suc n) f g same =
    ap₂ (λ x y. x + y) (sum_below-same n f g (λ k h. same k (omega arith))) (same n (omega arith))

pub sum_below-none : (f : ℕ → ℕ) → sum_below 0 f ≡ 0
unfolding sum_below
sum_below-none f = refl

pub sum_below-more : (n : ℕ) (f : ℕ → ℕ) → sum_below (n + 1) f ≡ sum_below n f + f n
unfolding sum_below
sum_below-more n f = let e : n + 1 ≡ suc n = omega arith in ap (λ k. sum_below k f) e

pub sum_below-add : (m n : ℕ) (f : ℕ → ℕ) → sum_below (m + n) f ≡ sum_below m f + sum_below n (λ k. f (m + k))
unfolding sum_below
sum_below-add m zero f = let e : m + zero ≡ m = omega arith in rw e (omega arith)
sum_below-add m (suc n) f =
    let e : m + suc n ≡ suc (m + n) = omega arith in
    let rest = sum_below-add m n f in rw e (omega arith)

pub sum_below-plus : (n : ℕ) (f g : ℕ → ℕ) → sum_below n (λ k. f k + g k) ≡ sum_below n f + sum_below n g
unfolding sum_below
sum_below-plus zero f g = refl
sum_below-plus (suc n) f g = let rest = sum_below-plus n f g in omega arith

pub sum_below-head : (n : ℕ) (f : ℕ → ℕ) → sum_below (suc n) f ≡ f 0 + sum_below n (λ k. f (suc k))
unfolding sum_below
sum_below-head zero f = omega arith
sum_below-head (suc n) f = let rest = sum_below-head n f in omega arith

pub sum_below-bound : (n m : ℕ) (f : ℕ → ℕ) → ((k : ℕ) → k < n → f k ≤ m) → sum_below n f ≤ n * m
unfolding sum_below
sum_below-bound zero m f all = omega arith
sum_below-bound (suc n) m f all =
    let rest = sum_below-bound n m f (λ k h. all k (omega arith)) in
    let last = all n (omega arith) in omega arith

-- a sum over rows
pub sum_below-rows : (m n : ℕ) (f : ℕ → ℕ) → sum_below (m * n) f ≡ sum_below m (λ r. sum_below n (λ c. f (r * n + c)))
sum_below-rows zero n f =
    ap (λ (k : ℕ). sum_below k f) (let e : zero * n ≡ 0 = omega arith in e) ∙ sum_below-none f ∙ sym (sum_below-none (λ r. sum_below n (λ c. f (r * n + c))))
sum_below-rows (suc m) n f =
    let rest = sum_below-rows m n f in
    ap (λ (k : ℕ). sum_below k f) (let e : suc m * n ≡ m * n + n = omega arith in e)
    ∙ sum_below-add (m * n) n f
    ∙ ap (λ (s : ℕ). s + sum_below n (λ c. f (m * n + c))) rest
    ∙ sym (sum_below-more m (λ r. sum_below n (λ c. f (r * n + c))))
    ∙ ap (λ (k : ℕ). sum_below k (λ r. sum_below n (λ c. f (r * n + c)))) (let e : m + 1 ≡ suc m = omega arith in e)

pub sum_below-four : (f : ℕ → ℕ) → sum_below 4 f ≡ (f 0 + f 1) + (f 2 + f 3)
unfolding sum_below
sum_below-four f = omega arith

-- the sum of a list
sum_l-all : (xs : List ℕ) (f : ℕ → ℕ) → ((k : ℕ) → k < length xs → get_or xs k 0 ≡ f k) → sum_l xs ≡ sum_below (length xs) f
unfolding sum_below
sum_l-all [] f all = refl
sum_l-all (x ∷ xs) f all =
    let first : x ≡ f 0 = all 0 (omega arith) in
    let rest = sum_l-all xs (λ k. f (suc k)) (λ k h. all (suc k) (omega arith)) in
    ap₂ (λ a b. a + b) first rest ∙ sym (sum_below-head (length xs) f)

pub sum_l-is : (n : ℕ) (xs : List ℕ) → length xs ≡ n → sum_l xs ≡ sum_below n (λ k. get_or xs k 0)
sum_l-is n xs long = sum_l-all xs (λ k. get_or xs k 0) (λ k h. refl) ∙ ap (λ m. sum_below m (λ k. get_or xs k 0)) long

-- blocks that have the same pixels
pub sum_of_differences-same : (rows columns : ℕ) (f f' g g' : ℕ → ℕ → ℕ)
    → ((r c : ℕ) → r < rows → c < columns → f r c ≡ f' r c) → ((r c : ℕ) → r < rows → c < columns → g r c ≡ g' r c)
    → sum_of_differences rows columns f g ≡ sum_of_differences rows columns f' g'
sum_of_differences-same rows columns f f' g g' first second =
    sum_below-same rows (λ r. sum_below columns (λ c. abs_diff (f r c) (g r c))) (λ r. sum_below columns (λ c. abs_diff (f' r c) (g' r c)))
    (λ r h. sum_below-same columns (λ c. abs_diff (f r c) (g r c)) (λ c. abs_diff (f' r c) (g' r c))
    (λ c k. ap₂ abs_diff (first r c h k) (second r c h k)))

block_in-lower : (xs : List ℕ) (at stride m r c : ℕ) → strided_block xs at stride (m + r) c ≡ strided_block xs (at + m * stride) stride r c
block_in-lower xs at stride m r c =
    let e : at + (m + r) * stride + c ≡ at + m * stride + r * stride + c = omega arith in ap (λ k. get_or xs k 0) e

-- the rows of a block, and those below them
pub sum_of_differences-add : (a b : List ℕ) (x s y t m n : ℕ)
    → sum_of_differences (m + n) 16 (strided_block a x s) (strided_block b y t)
    ≡ sum_of_differences m 16 (strided_block a x s) (strided_block b y t) + sum_of_differences n 16 (strided_block a (x + m * s) s) (strided_block b (y + m * t) t)
sum_of_differences-add a b x s y t m n =
    sum_below-add m n (λ r. sum_below 16 (λ c. abs_diff (strided_block a x s r c) (strided_block b y t r c)))
    ∙ ap (λ k. sum_of_differences m 16 (strided_block a x s) (strided_block b y t) + k)
    (sum_of_differences-same n 16 (λ r c. strided_block a x s (m + r) c) (strided_block a (x + m * s) s) (λ r c. strided_block b y t (m + r) c) (strided_block b (y + m * t) t)
    (λ r c h k. block_in-lower a x s m r c) (λ r c h k. block_in-lower b y t m r c))
