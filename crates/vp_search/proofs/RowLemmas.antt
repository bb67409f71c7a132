-- Rows of sixteen pixels in lanes.
use Rattle.std.proofs.Common.{◌≡◌, ℕ, ◌+◌, ◌*◌, ◌<◌, List, get_or, sym, ap, ap₂, ◌∙◌, arith, rules}
use Rattle.std.proofs.lemmas.List.{places}
use Rattle.std.specs.Int.{abs_diff}
use lib.Lanes.{chunk}
use Rattle.vp_search.specs.Sums.{sum_below}
use Rattle.vp_search.specs.Differences.{sum_of_differences, strided_block}
use Rattle.vp_search.proofs.SumLemmas.{sum_below-same, sum_below-plus, sum_below-four, sum_of_differences-add}

chunk-at : (xs : List ℕ) (x j : ℕ) → j < 16 → get_or (chunk x 16 xs) j 0 ≡ get_or xs (x + j) 0
chunk-at xs x j h = search (rules, places)

-- a lane of a row
pub lane_at : (q b : List ℕ) (y y' : ℕ) → q ≡ chunk y 16 b → y ≡ y' → (j : ℕ) → j < 16 → get_or q j 0 ≡ get_or b (y' + j) 0
lane_at q b y y' eq ey j h = ap (λ (l : List ℕ). get_or l j 0) eq ∙ chunk-at b y j h ∙ ap (λ k. get_or b (k + j) 0) ey

-- a lane of the differences of two rows
pub lane_beside : (p q d : List ℕ) (f g : ℕ → ℕ) → ((j : ℕ) → j < 16 → get_or d j 0 ≡ abs_diff (get_or p j 0) (get_or q j 0))
    → ((j : ℕ) → j < 16 → get_or p j 0 ≡ f j) → ((j : ℕ) → j < 16 → get_or q j 0 ≡ g j)
    → (j : ℕ) → j < 16 → get_or d j 0 ≡ abs_diff (f j) (g j)
lane_beside p q d f g all a b j h = all j h ∙ ap₂ abs_diff (a j h) (b j h)

-- lanes that hold the sums of four rows
pub four_sums : (row : ℕ → ℕ → ℕ) (e : List ℕ) → ((j : ℕ) → j < 16 → get_or e j 0 ≡ (row 0 j + row 1 j) + (row 2 j + row 3 j))
    → sum_below 16 (λ j. get_or e j 0) ≡ sum_below 4 (λ r. sum_below 16 (row r))
four_sums row e all =
    sum_below-same 16 (λ j. get_or e j 0) (λ j. (row 0 j + row 1 j) + (row 2 j + row 3 j)) all
    ∙ sum_below-plus 16 (λ j. row 0 j + row 1 j) (λ j. row 2 j + row 3 j)
    ∙ ap₂ (λ x y. x + y) (sum_below-plus 16 (row 0) (row 1)) (sum_below-plus 16 (row 2) (row 3))
    ∙ sym (sum_below-four (λ r. sum_below 16 (row r)))

-- a block of sixteen rows by fours
pub by_fours : (a b : List ℕ) (at s : ℕ) → sum_of_differences 16 16 (strided_block a 0 16) (strided_block b at s)
    ≡ sum_of_differences 4 16 (strided_block a 0 16) (strided_block b at s) + sum_of_differences 4 16 (strided_block a 64 16) (strided_block b (at + 4 * s) s)
    + sum_of_differences 4 16 (strided_block a 128 16) (strided_block b (at + 8 * s) s) + sum_of_differences 4 16 (strided_block a 192 16) (strided_block b (at + 12 * s) s)
by_fours a b at s =
    let further : at + 8 * s + 4 * s ≡ at + 12 * s = omega arith in
    let whole = sum_of_differences-add a b 0 16 at s 8 8 in
    let upper = sum_of_differences-add a b 0 16 at s 4 4 in
    let lower = rw further at (sum_of_differences-add a b 128 16 (at + 8 * s) s 4 4) in
    omega arith
