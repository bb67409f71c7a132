-- Lemmas on the passes by six weights.
use Rattle.std.proofs.Common.{ℕ, ◌≡◌, ◌∙◌, ◌+◌, ◌-◌, ◌*◌, ◌/◌, ◌%◌, ◌<◌, ℤ, List, ap, get_or, subst, arith, lit<, inl, inr}
use Rattle.std.proofs.lemmas.Bool.{cases_lt}
use Rattle.vp_inter.specs.Filter.{filtered_pixel, filter_six}
use Rattle.vp_inter.specs.Turns.{one_of_three}

-- six pixels that stand in three lists, those three apart side by side
pub from_three : (weights : List ℤ) (a b c : List ℕ) (i : ℕ) (pixel : ℕ → ℕ)
    → ((t : ℕ) → t < 2 → get_or a (i + t) 0 ≡ pixel (3 * t)) → ((t : ℕ) → t < 2 → get_or b (i + t) 0 ≡ pixel (3 * t + 1)) → ((t : ℕ) → t < 2 → get_or c (i + t) 0 ≡ pixel (3 * t + 2))
    → filter_six weights (λ k. get_or (one_of_three a b c (k % 3)) (i + k / 3) 0) ≡ filter_six weights pixel
from_three weights a b c i pixel x y z =
    ap (λ (v : ℕ). filtered_pixel weights v (get_or b (i + 0) 0) (get_or c (i + 0) 0) (get_or a (i + 1) 0) (get_or b (i + 1) 0) (get_or c (i + 1) 0)) (x 0 (lit< tt))
    ∙ ap (λ (v : ℕ). filtered_pixel weights (pixel 0) v (get_or c (i + 0) 0) (get_or a (i + 1) 0) (get_or b (i + 1) 0) (get_or c (i + 1) 0)) (y 0 (lit< tt))
    ∙ ap (λ (v : ℕ). filtered_pixel weights (pixel 0) (pixel 1) v (get_or a (i + 1) 0) (get_or b (i + 1) 0) (get_or c (i + 1) 0)) (z 0 (lit< tt))
    ∙ ap (λ (v : ℕ). filtered_pixel weights (pixel 0) (pixel 1) (pixel 2) v (get_or b (i + 1) 0) (get_or c (i + 1) 0)) (x 1 (lit< tt))
    ∙ ap (λ (v : ℕ). filtered_pixel weights (pixel 0) (pixel 1) (pixel 2) (pixel 3) v (get_or c (i + 1) 0)) (y 1 (lit< tt))
    ∙ ap (λ (v : ℕ). filtered_pixel weights (pixel 0) (pixel 1) (pixel 2) (pixel 3) (pixel 4) v) (z 1 (lit< tt))

-- sixteen numbers, by their halves
pub by_halves : (row : List ℕ) (value : ℕ → ℕ) → ((x : ℕ) → x < 8 → get_or row x 0 ≡ value x) → ((x : ℕ) → x < 8 → get_or row (8 + x) 0 ≡ value (8 + x))
    → (x : ℕ) → x < 16 → get_or row x 0 ≡ value x
by_halves row value front back x h =
    elim (cases_lt x 8) [
      | inl less ↦ front x less
      | inr more ↦
          let place : 8 + (x - 8) ≡ x = omega arith in
          subst (λ (i : ℕ). get_or row i 0 ≡ value i) place (back (x - 8) (omega arith))
    ]
