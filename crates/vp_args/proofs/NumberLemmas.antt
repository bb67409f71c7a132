-- Decimal numbers without a sign.
use borrow.Author.Count.{below_more}
use Rattle.std.proofs.Common.{◌≡◌, ◌<◌, ◌+◌, ◌∷◌, [], ℕ, zero, suc, List, true, false, refl, sym, subst, arith, inl, inr, length, get_or, set, le_of_suc-le-suc, not-suc-le-zero}
use Rattle.std.proofs.lemmas.List.{get_or-set_other, get_or-set_same, get_or_default}
use Rattle.std.specs.Prelude.{◌==◌, slice_index}
use Rattle.std.proofs.lemmas.Bool.{eqb-true}
use Rattle.std.specs.Char.{digit_value}
use Rattle.std.specs.Str.Parse.{without_leading_plus, IsNumeral}
use Rattle.clap.specs.Walk.{Row, Text, first_of}
use Rattle.vp_args.specs.Tables.{AreMissed, AreNumbers, IsMissed, IsNumberOf}
use Rattle.vp_args.specs.declared.numbers.Number.{Number}

pub no_plus : (t : Text) → (slice_index t 0 == 43) ≡ false → without_leading_plus t ≡ t
no_plus t e = rw e refl

pub no_signed_numeral : (t : Text) → (slice_index t 0 == 43) ≡ true → IsNumeral 10 t → ⊥
no_signed_numeral [] e h = absurd (le_irrefl h.0)
  where
    le_irrefl : 0 < 0 → ⊥
    le_irrefl x = omega arith
no_signed_numeral (c ∷ cs) e h = not_digit c (eqb-true c 43 e) h.1.0
  where
    not_digit : (c : ℕ) → c ≡ 43 → digit_value c < 10 → ⊥
    not_digit c e h = no (subst (λ x. digit_value x < 10) e h)
      where
        no : digit_value 43 < 10 → ⊥
        no x = omega arith

-- ---- tables of numbers

-- a refused number of a table
pub missed_at : (rows : List Row) (table : List Number) (i : ℕ) (d : Number) → i < length table
    → IsMissed (get_or table i d) (first_of (get_or table i d).name.now rows) → AreMissed rows table
missed_at rows [] i d lt h = absurd (not-suc-le-zero lt)
missed_at rows (x ∷ xs) zero d lt h = inl h
missed_at rows (x ∷ xs) (suc i) d lt h = inr (missed_at rows xs i d (le_of_suc-le-suc lt) h)

-- one more number of a table
pub one_number_more : (rows : List Row) (table : List Number) (all : List ℕ) (i number : ℕ) (e : Number) → i < length table → i < length all
    → ((k : ℕ) (d : Number) → k < i → IsNumberOf rows (get_or table k d) (slice_index all k)) → IsNumberOf rows (get_or table i e) number
    → (k : ℕ) (d : Number) → k < i + 1 → IsNumberOf rows (get_or table k d) (slice_index (set all i number) k)
one_number_more rows table all i number e lt room before here k d below = below_more (λ j. IsNumberOf rows (get_or table j d) (slice_index (set all i number) j)) i old new k below
  where
    not_at : (j : ℕ) → j < i → j ≡ i → ⊥
    not_at j l is = omega arith

    old : (j : ℕ) → j < i → IsNumberOf rows (get_or table j d) (slice_index (set all i number) j)
    old j l = subst (IsNumberOf rows (get_or table j d)) (sym (get_or-set_other all i j number 0 (not_at j l))) (before j d l)

    new : IsNumberOf rows (get_or table i d) (slice_index (set all i number) i)
    new = subst (λ t. IsNumberOf rows t (slice_index (set all i number) i)) (get_or_default table i e d lt)
        (subst (IsNumberOf rows (get_or table i e)) (sym (get_or-set_same all i number 0 room)) here)

-- all of them
pub are_numbers : (rows : List Row) (table : List Number) (all : List ℕ) (place : ℕ)
    → ((k j : ℕ) (d : Number) → j ≡ place + k → k < length table → IsNumberOf rows (get_or table k d) (slice_index all j)) → AreNumbers rows table all place
are_numbers rows [] all place h = tt
are_numbers rows (x ∷ xs) all place h =
    (h 0 place x (omega arith) (omega arith), are_numbers rows xs all (place + 1) (λ k j d e l. h (suc k) j d (omega arith) (omega arith)))
