-- What a line of the access log looks like, in elementary terms.
use Rattle.std.proofs.Common.{◌≡◌, ◌++◌, ◌∷◌, ◌∙◌, ◌≤◌, ◌&&◌, [], ℕ, List, Bool, true, false, refl, sym, ap, nat_lt, arith}
use Rattle.std.specs.List.{list_all}
use Rattle.std.proofs.lemmas.Bool.Decides.{nat_tests}
use Rattle.vp_mio.specs.Lines.{is_plain, PlainLinesArePrintable}

head_same : (x y : ℕ) (xs ys : List ℕ) → x ∷ xs ≡ y ∷ ys → x ≡ y
head_same x y xs ys e = cc

tail_same : (x y : ℕ) (xs ys : List ℕ) → x ∷ xs ≡ y ∷ ys → xs ≡ ys
tail_same x y xs ys e = cc

nil_cons : (x : ℕ) (xs : List ℕ) → [] ≡ x ∷ xs → ⊥
nil_cons x xs e = cc

nil_push : (xs : List ℕ) (y : ℕ) → [] ≡ xs ++ y ∷ [] → ⊥
nil_push [] y e = nil_cons y [] e
nil_push (x ∷ xs) y e = nil_cons x (xs ++ y ∷ []) e

-- the last byte
last_same : (xs ys : List ℕ) (x y : ℕ) → xs ++ x ∷ [] ≡ ys ++ y ∷ [] → x ≡ y
last_same [] [] x y e = head_same x y [] [] e
last_same [] (v ∷ ys) x y e = absurd (nil_push ys y (tail_same x v [] (ys ++ y ∷ []) e))
last_same (u ∷ xs) [] x y e = absurd (nil_push xs x (sym (tail_same u y (xs ++ x ∷ []) [] e)))
last_same (u ∷ xs) (v ∷ ys) x y e = last_same xs ys x y (tail_same u v (xs ++ x ∷ []) (ys ++ y ∷ []) e)

both_true : (a b : Bool) → a && b ≡ true → (a ≡ true) × (b ≡ true)
both_true true b h = (refl, h)
both_true false b h = absurd (false_true h)
  where
    false_true : false ≡ true → ⊥
    false_true e = cc

plain : (b : ℕ) → is_plain b ≡ true → (32 ≤ b) × (b ≤ 126)
plain b h =
    let both = both_true (nat_lt 31 b) (nat_lt b 127) h in
    let low : 32 ≤ b = grind (arith, nat_tests, both.0) in
    let high : b ≤ 126 = grind (arith, nat_tests, both.1) in
    (low, high)

-- a byte that another one follows
byte_plain : (text before after : List ℕ) (b next : ℕ) → list_all is_plain text ≡ true → before ++ b ∷ next ∷ after ≡ text ++ 10 ∷ [] → is_plain b ≡ true
byte_plain [] [] after b next h e = absurd (nil_cons next after (sym (tail_same b 10 (next ∷ after) [] e)))
byte_plain [] (x ∷ before) after b next h e = absurd (never before (tail_same x 10 (before ++ b ∷ next ∷ after) [] e))
  where
    never : (ys : List ℕ) → ys ++ b ∷ next ∷ after ≡ [] → ⊥
    never [] k = nil_cons b (next ∷ after) (sym k)
    never (y ∷ ys) k = nil_cons y (ys ++ b ∷ next ∷ after) (sym k)
byte_plain (t ∷ text) [] after b next h e = ap is_plain (head_same b t (next ∷ after) (text ++ 10 ∷ []) e) ∙ (both_true (is_plain t) (list_all is_plain text) h).0
byte_plain (t ∷ text) (x ∷ before) after b next h e =
    byte_plain text before after b next (both_true (is_plain t) (list_all is_plain text) h).1 (tail_same x t (before ++ b ∷ next ∷ after) (text ++ 10 ∷ []) e)

pub printable : PlainLinesArePrintable
printable = (
  λ h. nil_push h.0 10 h.1,
  λ text last h. last_same text h.0 last 10 h.1,
  λ before after b next h. plain b (byte_plain h.0 before after b next h.2 h.1),
)
