-- Lemmas on what a search of a window finds.
use Rattle.std.proofs.Common.{◌≡◌, ℕ, ◌+◌, ◌*◌, ◌<◌, ◌≤◌, sym, ap, ◌∙◌, subst, get_or, arith, inl, inr, ◌⊎◌}
use Rattle.std.specs.Prelude.{unsigned_abs}
use Rattle.std.proofs.lemmas.Bool.{cases_lt, cases_eq}
use Rattle.std.proofs.lemmas.Int.{ints}
use Rattle.vp_base.specs.declared.place.Place.{Place}
use Rattle.vp_base.specs.Raster.{Raster}
use Rattle.vp_search.specs.declared.vector.WholeVector.{WholeVector}
use Rattle.vp_search.specs.declared.vector.Found.{Found}
use Rattle.vp_search.specs.declared.window.TheConstants.{WINDOW_WIDTH}
use Rattle.vp_search.specs.declared.search_window.SearchWindow.{SearchWindow}
use Rattle.vp_search.specs.Vectors.{IsNear}
use Rattle.vp_search.specs.Differences.{sum_of_differences, strided_block, block16}
use Rattle.vp_search.specs.Blocks.{moved_block, whole_cost}
use Rattle.vp_search.specs.Least.{IsNoWorse}
use Rattle.vp_search.specs.Window.{vector_at}
use Rattle.vp_search.specs.Search.{cost_in, first_rows_in, IsFound, IsNoWorseAt, IsBestInRow, AreAbove, IsBestBelow}
use Rattle.vp_search.specs.Chosen.{IsChosen}
use Rattle.vp_search.proofs.RowLemmas.{by_fours}
use Rattle.vp_search.proofs.OrderLemmas.{along, same, less_cost, index, near_at, vector_is}
use Rattle.vp_search.proofs.WindowLemmas.{cost_at, IsFilled, window_pixel, window_cost-whole, least_same, quarter_cost-whole}

-- the first four rows of a vector's block are a part of its cost
pub first_rows_below : (w : SearchWindow) (i j : ℕ) → first_rows_in w i j ≤ cost_in w (vector_at w.range i j)
first_rows_below w i j =
    let whole = cost_at w.block.now w.pixels.now w.range i j in
    let fours = by_fours w.block.now w.pixels.now (i * WINDOW_WIDTH + j) WINDOW_WIDTH in
    omega (arith, whole, fours)

-- ---- a row

-- vectors that cost more than the best so far
pub skipped : (w : SearchWindow) (i from to : ℕ) (found : Found) → AreAbove w found.cost i from to → IsBestInRow w i from to found found
skipped w i from to found above = record {
  found = λ is. is;
  better = same found.cost found.vector;
  seen = λ j low high within. less_cost found.cost found.vector (cost_in w (vector_at w.range i j)) (vector_at w.range i j) (above j low high within);
}

-- none
pub none_seen : (w : SearchWindow) (i from : ℕ) (found : Found) → IsBestInRow w i from from found found
none_seen w i from found = skipped w i from from found (λ j low high within. absurd (omega arith))

-- one vector that costs more than the best so far
pub one_skipped : (w : SearchWindow) (i j : ℕ) (found : Found) → found.cost < cost_in w (vector_at w.range i j) → IsBestInRow w i j (j + 1) found found
one_skipped w i j found above =
    skipped w i j (j + 1) found (λ k low high within. let e : j ≡ k = omega arith in subst (λ (q : ℕ). found.cost < cost_in w (vector_at w.range i q)) e above)

-- one vector whose block differs by more in its first four rows
pub first_skipped : (w : SearchWindow) (i j : ℕ) (found : Found) → found.cost < first_rows_in w i j → IsBestInRow w i j (j + 1) found found
first_skipped w i j found above = let low = first_rows_below w i j in one_skipped w i j found (omega arith)

-- the better of the best so far and one vector
pub one_taken : (w : SearchWindow) (i j cost : ℕ) (v : WholeVector) (best found : Found) → i ≤ 2 * w.range → j ≤ 2 * w.range → v ≡ vector_at w.range i j
    → cost ≡ cost_in w (vector_at w.range i j) → IsNoWorse found.cost found.vector best.cost best.vector → IsNoWorse found.cost found.vector cost v
    → (found ≡ best) ⊎ (found ≡ record { vector = v; cost = cost }) → IsBestInRow w i j (j + 1) best found
one_taken w i j cost v best found hi hj e known no_worse here one =
    let new : Found = record { vector = v; cost = cost } in
    let of_new : IsFound w new = (subst (λ (u : WholeVector). IsNear w.range u) (sym e) (near_at w.range i j hi hj), λ _. known ∙ ap (cost_in w) (sym e)) in
    let no_worse_here : IsNoWorseAt w found i j =
    subst (λ (u : WholeVector). IsNoWorse found.cost found.vector (cost_in w (vector_at w.range i j)) u) e
    (subst (λ (k : ℕ). IsNoWorse found.cost found.vector k v) known here) in
    record {
      found = λ is. elim one [
        | inl x ↦ subst (λ (f : Found). IsFound w f) (sym x) is
        | inr x ↦ subst (λ (f : Found). IsFound w f) (sym x) of_new
      ];
      better = no_worse;
      seen = λ k low high within. let s : j ≡ k = omega arith in subst (λ (q : ℕ). IsNoWorseAt w found i q) s no_worse_here;
    }

-- one vector more that costs more than a limit
pub one_more : (w : SearchWindow) (limit i from column : ℕ) → AreAbove w limit i from column → limit < cost_in w (vector_at w.range i column) → AreAbove w limit i from (column + 1)
one_more w limit i from column above here j low high within = elim (cases_lt j column) [
  | inl before ↦ above j low before within
  | inr after ↦ (let e : column ≡ j = omega arith in subst (λ (k : ℕ). limit < cost_in w (vector_at w.range i k)) e here)
]

-- the cost of the block at an index of the window
pub cost_here : (w : SearchWindow) (i j at : ℕ) → at ≡ i * WINDOW_WIDTH + j
    → sum_of_differences 16 16 (strided_block w.block.now 0 16) (strided_block w.pixels.now at WINDOW_WIDTH) ≡ cost_in w (vector_at w.range i j)
cost_here w i j at e =
    ap (λ (k : ℕ). sum_of_differences 16 16 (strided_block w.block.now 0 16) (strided_block w.pixels.now k WINDOW_WIDTH)) e
    ∙ sym (cost_at w.block.now w.pixels.now w.range i j)

-- one part of a row after another
pub further : (w : SearchWindow) (i a b c : ℕ) (x y z : Found) → IsBestInRow w i a b x y → IsBestInRow w i b c y z → IsBestInRow w i a c x z
further w i a b c x y z p q = record {
  found = λ is. q.found (p.found is);
  better = along z.cost z.vector y.cost y.vector x.cost x.vector q.better p.better;
  seen = λ j low high within. elim (cases_lt j b) [
    | inl before ↦ along z.cost z.vector y.cost y.vector (cost_in w (vector_at w.range i j)) (vector_at w.range i j) q.better (p.seen j low before within)
    | inr after ↦ q.seen j after high within
  ];
}

-- ---- the whole window

-- the vectors of the rows less than d away from the middle are no better
abbrev pub AreSeen : SearchWindow → ℕ → Found → Type 0
AreSeen w d found = (i j : ℕ) → w.range < i + d → i < w.range + d → j ≤ 2 * w.range → IsNoWorseAt w found i j

-- the row in the middle
pub first_seen : (w : SearchWindow) (middle : ℕ) (x y : Found) → middle ≡ w.range → IsBestInRow w middle 0 (2 * w.range + 1) x y → AreSeen w 1 y
first_seen w middle x y e p i j high low wide =
    let s : middle ≡ i = omega arith in
    subst (λ (k : ℕ). IsNoWorseAt w y k j) s (p.seen j (omega arith) (omega arith) wide)

-- the next row above and the next one below
pub rows_seen : (w : SearchWindow) (d above below : ℕ) (x y z : Found) → above + d ≡ w.range → below ≡ w.range + d → AreSeen w d x
    → IsBestInRow w above 0 (2 * w.range + 1) x y → IsBestInRow w below 0 (2 * w.range + 1) y z → AreSeen w (d + 1) z
rows_seen w d above below x y z ea eb seen p q i j high low wide =
    let of_y : IsNoWorseAt w y i j → IsNoWorseAt w z i j =
    λ no. along z.cost z.vector y.cost y.vector (cost_in w (vector_at w.range i j)) (vector_at w.range i j) q.better no in
    elim (cases_eq i above) [
      | inl e ↦ of_y (subst (λ (k : ℕ). IsNoWorseAt w y k j) (sym e) (p.seen j (omega arith) (omega arith) wide))
      | inr u ↦ elim (cases_eq i below) [
        | inl e ↦ subst (λ (k : ℕ). IsNoWorseAt w z k j) (sym e) (q.seen j (omega arith) (omega arith) wide)
        | inr v ↦ of_y (along y.cost y.vector x.cost x.vector (cost_in w (vector_at w.range i j)) (vector_at w.range i j) p.better (seen i j (omega arith) (omega arith) wide))
      ]
    ]

-- a vector that is no worse than those of the rows near the middle, and than all in other rows, is the best
pub best_within : (w : SearchWindow) (d : ℕ) (found : Found) → IsFound w found → AreSeen w d found
    → ((c : ℕ) (v : WholeVector) → d ≤ unsigned_abs v.row → unsigned_abs v.row ≤ w.range → IsNoWorse found.cost found.vector c v) → IsBestBelow w found
best_within w d found is seen beyond =
    let all : (v : WholeVector) → IsNear w.range v → IsNoWorse found.cost found.vector (cost_in w v) v =
    λ v near. elim (cases_lt (unsigned_abs v.row) d) [
      | inr far ↦ beyond (cost_in w v) v far near.0
      | inl close ↦
          let x = index w.range v.row near.0 in let y = index w.range v.column near.1 in
          let e : vector_at w.range x.at y.at ≡ v = vector_is (vector_at w.range x.at y.at) v (sym x.is) (sym y.is) in
          subst (λ (u : WholeVector). IsNoWorse found.cost found.vector (cost_in w u) u) e (seen x.at y.at (omega (arith, ints)) (omega (arith, ints)) y.within)
    ] in
    record {
      known = is.1;
      least = λ below. record {
        near = is.0;
        least = λ v near. subst (λ (k : ℕ). IsNoWorse k found.vector (cost_in w v) v) (is.1 below) (all v near);
      };
      over = λ v near. (all v near).by_cost;
    }

-- the best vector of a window that is filled, if it costs less than the limit
pub best_below : (w : SearchWindow) (p : Raster) (place : Place) (best : Found) → IsFilled w.pixels.now p place w.range → ((k : ℕ) → get_or w.pixels.now k 0 ≤ 255)
    → IsBestBelow w best → IsChosen (block16 w.block.now) p place w.range w.limit best
best_below w p place best filled bytes is =
    let whole = window_cost-whole w.block.now w.pixels.now p place w.range in
    let bytes_of : (v : WholeVector) → IsNear w.range v → (r c : ℕ) → r < 16 → c < 16 → moved_block p place v r c ≤ 255 =
    λ v near r c h k. subst (λ (n : ℕ). n ≤ 255) (window_pixel w.pixels.now p place w.range v filled near r c h k) (bytes _) in
    let predicted = λ (v : WholeVector) (near : IsNear w.range v). quarter_cost-whole (block16 w.block.now) p place v (bytes_of v near) in
    record {
      cost = λ below. is.known below ∙ whole best.vector filled (is.least below).near;
      least = λ below. least_same w.range (cost_in w) (whole_cost (block16 w.block.now) p place) best.vector (λ v near. whole v filled near) (is.least below);
      predicted = λ below. is.known below ∙ whole best.vector filled (is.least below).near ∙ predicted best.vector (is.least below).near;
      over = λ v near. subst (λ (n : ℕ). best.cost ≤ n) (whole v filled near ∙ predicted v near) (is.over v near);
    }
