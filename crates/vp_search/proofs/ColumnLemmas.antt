-- Lemmas on the costs of vectors of one column.
use Rattle.std.proofs.Common.{◌≡◌, ◌∙◌, ℕ, ℤ, pos, ◌+◌, ◌-◌, ◌*◌, ◌/◌, ◌%◌, ◌<◌, ◌≤◌, ◌+ℤ◌, ◌-ℤ◌, ◌*ℤ◌, ◌⊎◌, List, get_or, refl, sym, ap, inl, inr, subst, arith}
use Rattle.std.proofs.lemmas.Int.{ints}
use Rattle.std.proofs.lemmas.Bool.{cases_lt}
use Rattle.std.specs.Int.{abs_diff}
use Rattle.vp_base.specs.declared.place.Place.{Place}
use Rattle.vp_base.specs.Raster.{Raster}
use Rattle.vp_inter.specs.Filter.{taps, filter_six}
use Rattle.vp_inter.specs.Vectors.{whole_pixels, fraction, luma_vector}
use Rattle.vp_inter.proofs.FilteredLemmas.{whole_is, fraction_is, filtered_is, whole_row_is}
use Rattle.vp_search.specs.declared.vector.QuarterVector.{QuarterVector}
use Rattle.vp_search.specs.declared.vector.Refined.{Refined}
use Rattle.vp_search.specs.Sums.{sum_below}
use Rattle.vp_search.specs.Differences.{sum_of_differences, strided_block, block16}
use Rattle.vp_search.specs.Blocks.{predicted_block, quarter_cost}
use Rattle.vp_search.specs.FirstLeast.{IsFirstLeast}
use Rattle.vp_search.specs.Refined.{neighbour}
use Rattle.vp_search.specs.Columns.{IsWithin, filtered, IsColumn, AreWithin}
use Rattle.vp_search.proofs.SumLemmas.{sum_below-add, sum_of_differences-same}
use Rattle.vp_search.proofs.RefinedLemmas.{below_nine}

-- four rows more
pub rows_more : (i : ℕ) (f g : ℕ → ℕ → ℕ)
    → sum_of_differences (4 * i) 16 f g + sum_of_differences 4 16 (λ r. f (4 * i + r)) (λ r. g (4 * i + r)) ≡ sum_of_differences (4 * (i + 1)) 16 f g
rows_more i f g =
    sym (ap (λ (n : ℕ). sum_of_differences n 16 f g) (let e : 4 * (i + 1) ≡ 4 * i + 4 = omega arith in e)
    ∙ sum_below-add (4 * i) 4 (λ r. sum_below 16 (λ c. abs_diff (f r c) (g r c))))

-- the first rows differ by no more than all
pub rows_of_all : (m : ℕ) (f g : ℕ → ℕ → ℕ) → m ≤ 16 → sum_of_differences m 16 f g ≤ sum_of_differences 16 16 f g
rows_of_all m f g h =
    let e : m + (16 - m) ≡ 16 = omega arith in
    let all = sym (ap (λ (n : ℕ). sum_of_differences n 16 f g) e) ∙ sum_below-add m (16 - m) (λ r. sum_below 16 (λ c. abs_diff (f r c) (g r c))) in
    omega (arith, all)

pub row_whole : (whole : ℤ) (down : ℕ) → whole_pixels (pos 2 *ℤ (pos 4 *ℤ whole +ℤ pos down)) ≡ whole_pixels (pos 2 *ℤ (pos 4 *ℤ whole)) +ℤ pos (down / 4)
row_whole whole down =
    let a : pos 2 *ℤ (pos 4 *ℤ whole +ℤ pos down) ≡ pos 8 *ℤ whole +ℤ pos (2 * down) = omega (arith, ints) in
    let b : pos 2 *ℤ (pos 4 *ℤ whole) ≡ pos 8 *ℤ whole +ℤ pos 0 = omega (arith, ints) in
    rw (a, b, whole_is whole (2 * down), whole_is whole 0) (omega (arith, ints))

pub row_fraction : (whole : ℤ) (down : ℕ) → fraction (pos 2 *ℤ (pos 4 *ℤ whole +ℤ pos down)) ≡ 2 * (down % 4)
row_fraction whole down =
    ap fraction (let a : pos 2 *ℤ (pos 4 *ℤ whole +ℤ pos down) ≡ pos 8 *ℤ whole +ℤ pos (2 * down) = omega (arith, ints) in a)
    ∙ fraction_is whole (2 * down) ∙ (let e : (2 * down) % 8 ≡ 2 * (down % 4) = omega arith in e)

-- the cost by the vertical pass
pub filtered_cost : (f : ℕ → ℕ → ℕ) (p : Raster) (place : Place) (whole column : ℤ) (down skip eighths : ℕ) (rows : List ℕ) → down < 8 → skip ≡ down / 4 → eighths ≡ 2 * (down % 4)
    → IsColumn p place whole column rows
    → sum_of_differences 16 16 f (λ r c. filtered (taps 0 eighths) rows (skip + r) c) ≡ quarter_cost f p place (record { row = pos 4 *ℤ whole +ℤ pos down; column = column })
unfolding quarter_cost luma_vector
filtered_cost f p place whole column down skip eighths rows small at part are =
    sum_of_differences-same 16 16 f f (λ r c. filtered (taps 0 eighths) rows (skip + r) c)
    (predicted_block p place (record { row = pos 4 *ℤ whole +ℤ pos down; column = column })) (λ r k h i. refl)
    (λ r k h i.
    ap (λ (n : ℕ). filter_six (taps 0 n) (λ j. get_or rows ((skip + r + j) * 16 + k) 0)) (part ∙ sym (row_fraction whole down))
    ∙ filtered_is p (16 * place.column) (16 * place.row) (pos 2 *ℤ (pos 4 *ℤ whole)) (pos 2 *ℤ (pos 4 *ℤ whole +ℤ pos down)) (pos 2 *ℤ column) skip rows r k
    (row_whole whole down ∙ ap (λ (n : ℕ). whole_pixels (pos 2 *ℤ (pos 4 *ℤ whole)) +ℤ pos n) (sym at)) are (omega arith) i)

-- .. and without, at whole rows
pub whole_row_cost : (block : List ℕ) (p : Raster) (place : Place) (whole column : ℤ) (down skip : ℕ) (rows : List ℕ) → down < 8 → skip ≡ down / 4 → 2 * (down % 4) ≡ 0
    → IsColumn p place whole column rows
    → sum_of_differences 16 16 (strided_block block 0 16) (strided_block rows (16 * (skip + 2)) 16)
    ≡ quarter_cost (block16 block) p place (record { row = pos 4 *ℤ whole +ℤ pos down; column = column })
unfolding quarter_cost luma_vector
whole_row_cost block p place whole column down skip rows small at none are =
    sum_of_differences-same 16 16 (strided_block block 0 16) (block16 block) (strided_block rows (16 * (skip + 2)) 16)
    (predicted_block p place (record { row = pos 4 *ℤ whole +ℤ pos down; column = column }))
    (λ r k h i. ap (λ (n : ℕ). get_or block n 0) (let e : 0 + r * 16 + k ≡ r * 16 + k = omega arith in e))
    (λ r k h i.
    ap (λ (n : ℕ). get_or rows n 0) (let e : 16 * (skip + 2) + r * 16 + k ≡ (skip + 2 + r) * 16 + k = omega arith in e)
    ∙ whole_row_is p (16 * place.column) (16 * place.row) (pos 2 *ℤ (pos 4 *ℤ whole)) (pos 2 *ℤ (pos 4 *ℤ whole +ℤ pos down)) (pos 2 *ℤ column) skip rows r k
    (row_whole whole down ∙ ap (λ (n : ℕ). whole_pixels (pos 2 *ℤ (pos 4 *ℤ whole)) +ℤ pos n) (sym at))
    (row_fraction whole down ∙ none) are (omega arith) i)

-- the cost by one of two vertical passes that were made as one
pub half_cost : (block : List ℕ) (p : Raster) (place : Place) (whole column : ℤ) (down skip from : ℕ) (rows both : List ℕ) → down < 8 → skip ≡ down / 4 → 4 ≡ 2 * (down % 4) → from ≡ 16 * skip
    → IsColumn p place whole column rows
    → ((r c : ℕ) → r < 17 → c < 16 → get_or both (r * 16 + c) 0 ≡ filtered (taps 0 4) rows r c)
    → sum_of_differences 16 16 (strided_block block 0 16) (strided_block both from 16)
    ≡ quarter_cost (block16 block) p place (record { row = pos 4 *ℤ whole +ℤ pos down; column = column })
half_cost block p place whole column down skip from rows both small at part begin are all =
    sum_of_differences-same 16 16 (strided_block block 0 16) (block16 block) (strided_block both from 16) (λ r c. filtered (taps 0 4) rows (skip + r) c)
    (λ r k h i. ap (λ (n : ℕ). get_or block n 0) (let e : 0 + r * 16 + k ≡ r * 16 + k = omega arith in e))
    (λ r k h i. ap (λ (n : ℕ). get_or both n 0) (let e : from + r * 16 + k ≡ (skip + r) * 16 + k = omega arith in e) ∙ all (skip + r) k (omega arith) i)
    ∙ filtered_cost (block16 block) p place whole column down skip 4 rows small at part are

-- the same cost, as far as the same limit
pub within_moved : (cost : QuarterVector → ℕ) (limit limit' number : ℕ) (a b x y : ℤ) → limit ≡ limit' → a ≡ b → x ≡ y
    → IsWithin limit number (cost (record { row = a; column = x })) → IsWithin limit' number (cost (record { row = b; column = y }))
within_moved cost limit limit' number a b x y l row column h =
    subst (λ (n : ℕ). IsWithin n number (cost (record { row = b; column = y }))) l
    (subst (λ (z : ℤ). IsWithin limit number (cost (record { row = z; column = y }))) row
    (subst (λ (z : ℤ). IsWithin limit number (cost (record { row = a; column = z }))) column h))

-- the first of the least of costs that are exact as far as that of the centre
pub best_within : (cost : QuarterVector → ℕ) (centre : Refined) (d : ℤ) (costs : List ℕ) (best : ℕ) → centre.cost ≡ cost centre.vector → AreWithin costs cost centre d
    → IsFirstLeast 9 (λ k. get_or costs k 0) best → IsFirstLeast 9 (λ k. cost (neighbour centre.vector d k)) best × (get_or costs best 0 ≡ cost (neighbour centre.vector d best))
best_within cost centre d costs best known within first =
    let w = first.within in
    let begin = within 0 (omega arith) in
    let zero : get_or costs 0 0 ≤ centre.cost = elim (cases_lt centre.cost (get_or costs 0 0)) [
      | inl more ↦ (let h = begin.1 more in absurd (omega arith))
      | inr less ↦ omega arith
    ] in
    let low = first.least 0 (omega arith) in
    let exact : get_or costs best 0 ≡ cost (neighbour centre.vector d best) = (within best w).0 (omega arith) in
    let over : (k : ℕ) → k < 9 → get_or costs k 0 ≤ cost (neighbour centre.vector d k) ⊎ (centre.cost < cost (neighbour centre.vector d k)) =
    λ k h. elim (cases_lt centre.cost (get_or costs k 0)) [
      | inl more ↦ inr ((within k h).1 more)
      | inr less ↦ inl (let e = (within k h).0 (omega arith) in omega arith)
    ] in (
      record {
        within = w;
        least = λ k h. elim (over k h) [
          | inl less ↦ (let l = first.least k h in omega arith)
          | inr more ↦ omega arith
        ];
        first = λ k h. elim (over k (omega arith)) [
          | inl less ↦ (let l = first.first k h in omega arith)
          | inr more ↦ omega arith
        ];
      },
      exact,
    )

-- the column of a neighbour
pub columns_beside : (centre : QuarterVector) (d : ℤ) (k : ℕ) → k < 9
    → ((neighbour centre d k).column ≡ centre.column -ℤ d) ⊎ ((neighbour centre d k).column ≡ centre.column) ⊎ ((neighbour centre d k).column ≡ centre.column +ℤ d)
columns_beside centre d k h =
    below_nine (λ k. ((neighbour centre d k).column ≡ centre.column -ℤ d) ⊎ ((neighbour centre d k).column ≡ centre.column) ⊎ ((neighbour centre d k).column ≡ centre.column +ℤ d))
    (inr (inl refl)) (inl refl) (inr (inl refl)) (inr (inr refl)) (inl refl) (inr (inr refl)) (inl refl) (inr (inl refl)) (inr (inr refl)) k h
