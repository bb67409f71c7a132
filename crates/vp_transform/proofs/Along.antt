-- The transform of four numbers at equal numbers, and blocks at equal entries.
use Rattle.std.proofs.Common.{◌≡◌, ℕ, ◌<◌, ℤ, pos, List, [], ◌∷◌, ap, subst, sym, ◌∙◌, slice_index_or, map, lit<, refl}
use Rattle.vp_transform.specs.Fits.{Fits, TurnFits}
use Rattle.vp_transform.specs.Transform.{turned}
use Rattle.vp_transform.specs.Steps.{mixed}
use Rattle.vp_transform.proofs.Words.{coded, read}

module _ {a b c d p q r s : ℤ} (e : a ≡ p) (f : b ≡ q) (g : c ≡ r) (h : d ≡ s) where
  pub turn_along : TurnFits p q r s → TurnFits a b c d
  turn_along t =
      subst (λ v. TurnFits v b c d) (sym e) (subst (λ v. TurnFits p v c d) (sym f) (subst (λ v. TurnFits p q v d) (sym g) (subst (λ v. TurnFits p q r v) (sym h) t)))

  pub turned_along : turned a b c d ≡ turned p q r s
  turned_along =
      ap (λ v. turned v b c d) e ∙ ap (λ v. turned p v c d) f ∙ ap (λ v. turned p q v d) g ∙ ap (λ v. turned p q r v) h

-- ---- four rows or columns laid out as a block
abbrev pub get : List ℤ → ℕ → ℤ
get xs k = slice_index_or xs k (pos 0)

abbrev pub by_columns : List ℤ → List ℤ → List ℤ → List ℤ → List ℤ
by_columns a b c d =
    get a 0 ∷ get b 0 ∷ get c 0 ∷ get d 0 ∷ get a 1 ∷ get b 1 ∷ get c 1 ∷ get d 1 ∷
    get a 2 ∷ get b 2 ∷ get c 2 ∷ get d 2 ∷ get a 3 ∷ get b 3 ∷ get c 3 ∷ get d 3 ∷ []

abbrev pub by_rows : List ℤ → List ℤ → List ℤ → List ℤ → List ℤ
by_rows a b c d =
    get a 0 ∷ get a 1 ∷ get a 2 ∷ get a 3 ∷ get b 0 ∷ get b 1 ∷ get b 2 ∷ get b 3 ∷
    get c 0 ∷ get c 1 ∷ get c 2 ∷ get c 3 ∷ get d 0 ∷ get d 1 ∷ get d 2 ∷ get d 3 ∷ []

-- the first four numbers are i64
abbrev pub FourFit : List ℤ → Type 0
FourFit xs = (k : ℕ) → k < 4 → Fits (get xs k)

read_cons : {x : ℤ} {xs ys : List ℤ} → Fits x → xs ≡ ys → coded x ∷ xs ≡ x ∷ ys
read_cons {x} {xs} {ys} f e = ap (λ v. v ∷ xs) (read x f) ∙ ap (λ v. x ∷ v) e

module _ {a b c d p q r s : List ℤ} (e : a ≡ p) (f : b ≡ q) (g : c ≡ r) (h : d ≡ s) where
  pub columns_along : by_columns a b c d ≡ by_columns p q r s
  columns_along =
      ap (λ v. by_columns v b c d) e ∙ ap (λ v. by_columns p v c d) f ∙ ap (λ v. by_columns p q v d) g ∙ ap (λ v. by_columns p q r v) h

  pub rows_along : by_rows a b c d ≡ by_rows p q r s
  rows_along = ap (λ v. by_rows v b c d) e ∙ ap (λ v. by_rows p v c d) f ∙ ap (λ v. by_rows p q v d) g ∙ ap (λ v. by_rows p q r v) h

module _ (a b c d : List ℤ) (i : FourFit a) (j : FourFit b) (k : FourFit c) (l : FourFit d) where
  zeroth : 0 < 4
  zeroth = lit< tt

  first : 1 < 4
  first = lit< tt

  second : 2 < 4
  second = lit< tt

  third : 3 < 4
  third = lit< tt

  pub columns_read : map coded (by_columns a b c d) ≡ by_columns a b c d
  columns_read =
      read_cons (i 0 zeroth) (read_cons (j 0 zeroth) (read_cons (k 0 zeroth) (read_cons (l 0 zeroth)
      (read_cons (i 1 first) (read_cons (j 1 first) (read_cons (k 1 first) (read_cons (l 1 first)
      (read_cons (i 2 second) (read_cons (j 2 second) (read_cons (k 2 second) (read_cons (l 2 second)
      (read_cons (i 3 third) (read_cons (j 3 third) (read_cons (k 3 third) (read_cons (l 3 third) refl)))))))))))))))

  pub rows_read : map coded (by_rows a b c d) ≡ by_rows a b c d
  rows_read =
      read_cons (i 0 zeroth) (read_cons (i 1 first) (read_cons (i 2 second) (read_cons (i 3 third)
      (read_cons (j 0 zeroth) (read_cons (j 1 first) (read_cons (j 2 second) (read_cons (j 3 third)
      (read_cons (k 0 zeroth) (read_cons (k 1 first) (read_cons (k 2 second) (read_cons (k 3 third)
      (read_cons (l 0 zeroth) (read_cons (l 1 first) (read_cons (l 2 second) (read_cons (l 3 third) refl)))))))))))))))

pub mixed_along : {a b c d p q r s : ℤ} → a ≡ p → b ≡ q → c ≡ r → d ≡ s → mixed a b c d ≡ mixed p q r s
mixed_along {a} {b} {c} {d} {p} {q} {r} {s} e f g h =
    ap (λ v. mixed v b c d) e ∙ ap (λ v. mixed p v c d) f ∙ ap (λ v. mixed p q v d) g ∙ ap (λ v. mixed p q r v) h
