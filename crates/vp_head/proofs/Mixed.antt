-- Short lists, item by item, also as they are written, and a list that is replaced from the front.
use Rattle.std.proofs.Common.{◌≡◌, ℕ, ℤ, pos, zero, suc, ◌<◌, List, [], ◌∷◌, length, refl, ap, arith}
use Rattle.std.specs.Prelude.{slice_index_or, slice_set}
use Rattle.vp_bool.specs.Reader.{Reader}
use Rattle.vp_bool.specs.Intervals.{Interval}
use Rattle.vp_bool.specs.Writing.{Writes}
use Rattle.vp_bool.proofs.WritingLemmas.{Writes-then, Continues-none}
use Rattle.vp_head.specs.Rows.{list_of}

-- a list whose items were written in order
list_written : {A : Type 0} (n : ℕ) (row : ℕ → Reader A) {old mid new : Interval} {a : A} {xs : List A}
    → Writes (row 0) old mid a → Writes (list_of n (λ i. row (suc i))) mid new xs → Writes (list_of (suc n) row) old new (a ∷ xs)
list_written n row first others = Writes-then _ first (Writes-then _ others (Continues-none _ _))

pub three_written : {A : Type 0} (row : ℕ → Reader A) {i j k l : Interval} {a b c : A} → Writes (row 0) i j a → Writes (row 1) j k b → Writes (row 2) k l c
    → Writes (list_of 3 row) i l (a ∷ b ∷ c ∷ [])
three_written row x y z =
    list_written 2 row x (list_written 1 (λ i. row (suc i)) y (list_written 0 (λ i. row (suc (suc i))) z (Continues-none _ _)))

pub four_written : {A : Type 0} (row : ℕ → Reader A) {i j k l m : Interval} {a b c e : A} → Writes (row 0) i j a → Writes (row 1) j k b → Writes (row 2) k l c → Writes (row 3) l m e
    → Writes (list_of 4 row) i m (a ∷ b ∷ c ∷ e ∷ [])
four_written row w x y z = list_written 3 row w (three_written (λ i. row (suc i)) x y z)

pub three_are : (xs : List ℕ) → length xs ≡ 3 → slice_index_or xs 0 0 ∷ slice_index_or xs 1 0 ∷ slice_index_or xs 2 0 ∷ [] ≡ xs
three_are [] h = absurd (omega arith)
three_are (a ∷ []) h = absurd (omega arith)
three_are (a ∷ b ∷ []) h = absurd (omega arith)
three_are (a ∷ b ∷ c ∷ []) h = refl
three_are (a ∷ b ∷ c ∷ e ∷ xs) h = absurd (omega arith)

pub four_are : (xs : List ℕ) → length xs ≡ 4 → slice_index_or xs 0 0 ∷ slice_index_or xs 1 0 ∷ slice_index_or xs 2 0 ∷ slice_index_or xs 3 0 ∷ [] ≡ xs
four_are [] h = absurd (omega arith)
four_are (a ∷ []) h = absurd (omega arith)
four_are (a ∷ b ∷ []) h = absurd (omega arith)
four_are (a ∷ b ∷ c ∷ []) h = absurd (omega arith)
four_are (a ∷ b ∷ c ∷ e ∷ []) h = refl
four_are (a ∷ b ∷ c ∷ e ∷ x ∷ xs) h = absurd (omega arith)

pub four_signed_are : (xs : List ℤ) (a b c e : ℤ) → length xs ≡ 4 → a ≡ slice_index_or xs 0 (pos 0) → b ≡ slice_index_or xs 1 (pos 0) → c ≡ slice_index_or xs 2 (pos 0) → e ≡ slice_index_or xs 3 (pos 0)
    → a ∷ b ∷ c ∷ e ∷ [] ≡ xs
four_signed_are [] a b c e h p q r s = absurd (omega arith)
four_signed_are (x ∷ []) a b c e h p q r s = absurd (omega arith)
four_signed_are (x ∷ y ∷ []) a b c e h p q r s = absurd (omega arith)
four_signed_are (x ∷ y ∷ z ∷ []) a b c e h p q r s = absurd (omega arith)
four_signed_are (x ∷ y ∷ z ∷ w ∷ []) a b c e h p q r s = cc
four_signed_are (x ∷ y ∷ z ∷ w ∷ v ∷ xs) a b c e h p q r s = absurd (omega arith)

-- the first n items of new, and the others of old
abbrev pub mixed : {A : Type 0} → ℕ → List A → List A → List A
mixed zero new old = old
mixed (suc n) [] old = old
mixed (suc n) (x ∷ xs) [] = []
mixed (suc n) (x ∷ xs) (y ∷ ys) = x ∷ mixed n xs ys

pub mixed-at : {A : Type 0} (d : A) (n : ℕ) (new old : List A) → n < length new → slice_index_or (mixed n new old) n d ≡ slice_index_or old n d
mixed-at d zero new old h = refl
mixed-at d (suc n) [] old h = absurd (omega arith)
mixed-at d (suc n) (x ∷ xs) [] h = refl
mixed-at d (suc n) (x ∷ xs) (y ∷ ys) h = mixed-at d n xs ys (omega arith)

pub mixed-more : {A : Type 0} (d : A) (n : ℕ) (new old : List A) → n < length new → length old ≡ length new → slice_set (mixed n new old) n (slice_index_or new n d) ≡ mixed (suc n) new old
mixed-more d n [] old h e = absurd (omega arith)
mixed-more d n (x ∷ xs) [] h e = absurd (omega arith)
mixed-more d zero (x ∷ xs) (y ∷ ys) h e = refl
mixed-more d (suc n) (x ∷ xs) (y ∷ ys) h e = ap (λ l. x ∷ l) (mixed-more d n xs ys (omega arith) (omega arith))

pub mixed-all : {A : Type 0} (n : ℕ) (new old : List A) → length new ≡ n → length old ≡ n → mixed n new old ≡ new
mixed-all zero [] [] a b = refl
mixed-all zero [] (y ∷ ys) a b = absurd (omega arith)
mixed-all zero (x ∷ xs) old a b = absurd (omega arith)
mixed-all (suc n) [] old a b = absurd (omega arith)
mixed-all (suc n) (x ∷ xs) [] a b = absurd (omega arith)
mixed-all (suc n) (x ∷ xs) (y ∷ ys) a b = ap (λ l. x ∷ l) (mixed-all n xs ys (omega arith) (omega arith))
