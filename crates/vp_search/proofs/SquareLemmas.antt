-- The sums of the squares of a window, row by row, and of the window of another place.
use Rattle.std.proofs.Common.{◌≡◌, ℕ, ◌+◌, ◌-◌, ◌*◌, ◌<◌, ◌≤◌, List, get_or, sym, ap, ap₂, ◌∙◌, inl, inr, arith, pos, ◌-ℤ◌, length}
use Rattle.std.proofs.lemmas.Bool.{cases_lt}
use Rattle.vp_base.specs.declared.place.Place.{Place}
use Rattle.vp_base.specs.Raster.{Raster}
use Rattle.vp_inter.specs.Inter.{reference_pixel}
use Rattle.vp_search.specs.declared.window.TheConstants.{WINDOW_WIDTH}
use Rattle.vp_search.specs.Sums.{sum_below}
use Rattle.vp_search.specs.Window.{searched_pixel}
use Rattle.vp_search.specs.Bounds.{capped, column_sum, row_sum, square_sum, AreSummed}
use Rattle.vp_search.specs.declared.kept.TheConstants.{SLIDE}
use Rattle.vp_search.specs.declared.kept.Kept.{Kept}
use Rattle.vp_search.specs.Coarse.{AreCoarse}
use Rattle.vp_search.specs.Kept.{searched_square, AreKept}
use Rattle.vp_search.proofs.SumLemmas.{sum_below-same}
use Rattle.vp_search.proofs.SumLanes.{row_is_square}
use Rattle.vp_search.proofs.WindowLemmas.{IsFilled}

-- from an index on: the sums of the first rows, and those of the first columns of all rows
pub record Rows (window sums : List ℕ) (range start first rows : ℕ) : Type 0 where
  pub made : (y x : ℕ) → y < rows → x ≤ 2 * range + 8 → get_or sums (start + (y * WINDOW_WIDTH + x)) 0 ≡ square_sum window (y * WINDOW_WIDTH + x) WINDOW_WIDTH
  pub known : AreSummed window sums range start first

-- one row more
pub row_more : (window old new columns : List ℕ) (range start first i n at to : ℕ) → Rows window old range start first i → at ≡ i * WINDOW_WIDTH + first → to ≡ start + at
    → i ≤ 2 * range + 8 → first + 8 * n ≤ WINDOW_WIDTH → 2 * range + 9 ≤ first + 8 * n
    → ((x : ℕ) → x < 8 * (n + 1) → get_or columns x 0 ≡ column_sum window (at + x) WINDOW_WIDTH)
    → ((x : ℕ) → x < 8 * n → get_or new (to + x) 0 ≡ row_sum columns x)
    → ((k : ℕ) → k < to → get_or new k 0 ≡ get_or old k 0)
    → ((k : ℕ) → to + 8 * n ≤ k → get_or new k 0 ≡ get_or old k 0)
    → Rows window new range start first (i + 1)
row_more window old new columns range start first i n at to done e f within fits wide all here before after = record {
  made = λ y x h k. elim (cases_lt y i) [
    | inl less ↦ before (start + (y * WINDOW_WIDTH + x)) (omega arith) ∙ done.made y x less k
    | inr more ↦ elim (cases_lt x first) [
      | inl known ↦ before (start + (y * WINDOW_WIDTH + x)) (omega arith) ∙ done.known y x (omega arith) known
      | inr new_one ↦
          let j : ℕ = x - first in
          let place : y * WINDOW_WIDTH + x ≡ at + j = omega arith in
          let stored : start + (y * WINDOW_WIDTH + x) ≡ to + j = omega arith in
          ap (λ (k : ℕ). get_or new k 0) stored ∙ here j (omega arith)
          ∙ row_is_square columns window at WINDOW_WIDTH (8 * (n + 1)) j all (omega arith)
          ∙ ap (λ (k : ℕ). square_sum window k WINDOW_WIDTH) (sym place)
    ]
  ];
  known = λ y x h k. elim (cases_lt y (i + 1)) [
    | inl less ↦ before (start + (y * WINDOW_WIDTH + x)) (omega arith) ∙ done.known y x h k
    | inr more ↦ after (start + (y * WINDOW_WIDTH + x)) (omega arith) ∙ done.known y x h k
  ];
}

-- ---- the squares of a reference

-- a square of a window that is filled
pub square_searched : (window : List ℕ) (p : Raster) (place : Place) (range y x : ℕ) → IsFilled window p place range → y ≤ 2 * range + 8 → x ≤ 2 * range + 8
    → square_sum window (y * WINDOW_WIDTH + x) WINDOW_WIDTH ≡ searched_square p place range y x
unfolding square_sum column_sum searched_square
square_searched window p place range y x filled h k =
    ap capped (sum_below-same 8 (λ c. column_sum window (y * WINDOW_WIDTH + x + c) WINDOW_WIDTH) (λ c. capped (sum_below 8 (λ r. searched_pixel p place range (y + r) (x + c))))
    (λ c hc. ap capped (sum_below-same 8 (λ r. get_or window (y * WINDOW_WIDTH + x + c + r * WINDOW_WIDTH) 0) (λ r. searched_pixel p place range (y + r) (x + c))
    (λ r hr. let e : y * WINDOW_WIDTH + x + c + r * WINDOW_WIDTH ≡ (y + r) * WINDOW_WIDTH + (x + c) = omega arith in
    ap (λ (i : ℕ). get_or window i 0) e ∙ filled (y + r) (x + c) (omega arith) (omega arith)))))

-- the same square in the window of a place further right
pub square_moved : (p : Raster) (from to : Place) (range y x moved : ℕ) → to.row ≡ from.row → 16 * to.column ≡ 16 * from.column + moved
    → searched_square p from range y (x + moved) ≡ searched_square p to range y x
unfolding searched_square
square_moved p from to range y x moved same further =
    ap capped (sum_below-same 8 (λ c. capped (sum_below 8 (λ r. searched_pixel p from range (y + r) (x + moved + c)))) (λ c. capped (sum_below 8 (λ r. searched_pixel p to range (y + r) (x + c))))
    (λ c hc. ap capped (sum_below-same 8 (λ r. searched_pixel p from range (y + r) (x + moved + c)) (λ r. searched_pixel p to range (y + r) (x + c))
    (λ r hr. let column : 16 * from.column + (x + moved + c) ≡ 16 * to.column + (x + c) = omega arith in
    let row : 16 * from.row + (y + r) ≡ 16 * to.row + (y + r) = omega arith in
    ap₂ (λ (m n : ℕ). reference_pixel p (pos m -ℤ pos range) (pos n -ℤ pos range)) column row))))

-- ---- the sums that are kept

-- they are those of the window
pub kept_summed : (window sums coarse : List ℕ) (p : Raster) (place : Place) (range : ℕ) (kept : Kept) → AreKept p range kept sums coarse → kept.place ≡ place → IsFilled window p place range
    → AreSummed window sums range kept.start kept.columns
kept_summed window sums coarse p place range kept all same filled y x h k =
    let few = all.few in
    all.are y x h k ∙ ap (λ (q : Place). searched_square p q range y x) same ∙ sym (square_searched window p place range y x filled h (omega arith))

-- those of a window are kept
pub summed_kept : (window sums coarse : List ℕ) (p : Raster) (place : Place) (range columns start : ℕ) → AreSummed window sums range start (2 * range + 9) → columns ≡ 2 * range + 9 → start ≤ SLIDE
    → IsFilled window p place range → length sums ≡ (2 * range + 16) * WINDOW_WIDTH + 8 + SLIDE → (0 < length coarse → length coarse ≡ length sums) → (0 < length coarse → AreCoarse (length sums) sums coarse)
    → AreKept p range (record { place = place; columns = columns; start = start }) sums coarse
summed_kept window sums coarse p place range columns start all whole room filled size wide same = record {
  few = omega arith;
  room = room;
  size = size;
  are = λ y x h k. all y x h (omega arith) ∙ square_searched window p place range y x filled h (omega arith);
  coarse_size = wide;
  coarse_are = same;
}
