-- Places in raster order.
use Rattle.std.proofs.Common.{◌≡◌, ◌≢◌, ℕ, ◌+◌, ◌<◌, ◌≤◌, ◌⊎◌, inl, inr, refl, sym, ap, subst, arith}
use Rattle.std.proofs.lemmas.Bool.{cases_lt, cases_eq}
use Rattle.vp_base.specs.declared.place.Place.{Place}
use Rattle.vp_decode.specs.MacroblockMaps.{place}
use Rattle.vp_encode.specs.FrameChoices.{IsBeforeInRaster}

pub not_itself : (p : Place) → IsBeforeInRaster p p → ⊥
not_itself p b = let c = b.column refl in omega arith

pub apart : (q p : Place) → IsBeforeInRaster q p → q ≢ p
apart q p earlier e = not_itself p (subst (λ (r : Place). IsBeforeInRaster r p) e earlier)

pub same_or_not : (q p : Place) → (q ≡ p) ⊎ (q ≢ p)
same_or_not q p = elim (cases_eq q.column p.column) [
  | inl column ↦ elim (cases_eq q.row p.row) [
    | inl row ↦ inl (λ i. record { column = column i; row = row i })
    | inr other ↦ inr (λ e. other (ap (λ (r : Place). r.row) e))
  ]
  | inr other ↦ inr (λ e. other (ap (λ (r : Place). r.column) e))
]

pub none_before : (q : Place) → IsBeforeInRaster q (place 0 0) → ⊥
none_before q earlier = let never = earlier.column (omega arith) in omega arith

-- what comes before the next place comes before this one, or is it
pub before_next : (q : Place) (row n : ℕ) → IsBeforeInRaster q (place row (n + 1)) → IsBeforeInRaster q (place row n) ⊎ (q ≡ place row n)
before_next q row n b = elim (cases_lt q.row row) [
  | inl above ↦ inl (record { row = b.row; column = λ same. absurd (omega arith) })
  | inr level ↦
      let same : q.row ≡ row = omega arith in
      let left = b.column same in
      elim (cases_lt q.column n) [
        | inl earlier ↦ inl (record { row = b.row; column = λ e. earlier })
        | inr late ↦ let last : q.column ≡ n = omega arith in inr (λ i. record { column = last i; row = same i })
      ]
]

pub earlier_next : (q : Place) (row n : ℕ) → IsBeforeInRaster q (place row n) → IsBeforeInRaster q (place row (n + 1))
earlier_next q row n b = record { row = b.row; column = λ e. let c = b.column e in omega arith }

pub not_last : (q : Place) (row n : ℕ) → ¬ IsBeforeInRaster q (place row (n + 1)) → q ≢ place row n
not_last q row n later e =
    later (subst (λ (r : Place). IsBeforeInRaster r (place row (n + 1))) (sym e) (record { row = omega arith; column = λ e. omega arith }))

-- the end of a row of n columns, and the next row
pub row_over : (q : Place) (row n : ℕ) → q.column < n → IsBeforeInRaster q (place (row + 1) 0) → IsBeforeInRaster q (place row n)
row_over q row n inside b =
    let level : q.row ≤ row = elim (cases_lt q.row (row + 1)) [
      | inl above ↦ omega arith
      | inr same ↦ let never = b.column (omega arith) in absurd (omega arith)
    ] in
    record { row = level; column = λ e. inside }

pub earlier_row : (q : Place) (row n : ℕ) → IsBeforeInRaster q (place row n) → IsBeforeInRaster q (place (row + 1) 0)
earlier_row q row n b = record { row = omega arith; column = λ e. absurd (omega arith) }

-- after all rows
pub in_rows : (q : Place) (rows : ℕ) → q.row < rows → IsBeforeInRaster q (place rows 0)
in_rows q rows up = record { row = omega arith; column = λ e. absurd (omega arith) }
