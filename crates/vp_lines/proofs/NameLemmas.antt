-- Names of files in lines.
use Rattle.std.proofs.Common.{◌≡◌, inl, inr, ℕ, ◌+◌, ◌<◌, ◌≤◌, List, [], ◌∷◌, ◌++◌, true, false, length, take, get_or, Option, refl, sym, ap, ◌∙◌, append_assoc, arith}
use Rattle.std.specs.Prelude.{nat_eq, nat_lt}
use Rattle.std.specs.List.{list_all}
use Rattle.std.specs.Io.KnownBytes.{Appends}
use Rattle.std.proofs.lemmas.Bool.{agree_below_at, and_from, and_parts, cases_lt, eqb-true, false_from_ne_true, le-ltb}
use Rattle.std.proofs.lemmas.List.{append-nil, take_more}
use Rattle.std.proofs.lemmas.List.Folds.{list_all-append}
use Rattle.vp_base.proofs.Writes.{appends_both}
use Rattle.vp_lines.specs.CheckLines.{is_plain_byte, name_byte, shown_name}

-- one more byte of a name
name_more : (bs : List ℕ) (b : ℕ) → shown_name (bs ++ b ∷ []) ≡ shown_name bs ++ name_byte b
name_more [] b = append-nil (name_byte b)
name_more (x ∷ bs) b = ap (λ ns. name_byte x ++ ns) (name_more bs b) ∙ sym (append_assoc (name_byte x) (shown_name bs) (name_byte b))

pub next_name_byte : (name : List ℕ) (i d : ℕ) (a b c : Option (List ℕ)) → i < length name → Appends a b (shown_name (take i name))
    → Appends b c (name_byte (get_or name i d)) → Appends a c (shown_name (take (i + 1) name))
next_name_byte name i d a b c lt before byte =
    rw (take_more name i d lt, name_more (take i name) (get_or name i d)) (appends_both a b c _ _ before byte)

-- ---- control bytes

byte_as_it_is : (b : ℕ) → is_plain_byte b ≡ true → name_byte b ≡ b ∷ []
byte_as_it_is b plain = rw plain refl

pub plain_name : (name : List ℕ) → list_all is_plain_byte name ≡ true → shown_name name ≡ name
plain_name [] plain = refl
plain_name (b ∷ bs) plain =
    let both = and_parts (is_plain_byte b) (list_all is_plain_byte bs) plain in
    rw (byte_as_it_is b both.0, plain_name bs both.1) refl

above_is_plain : (b : ℕ) → 128 ≤ b → is_plain_byte b ≡ true
above_is_plain b above =
    let visible : nat_lt b 32 ≡ false = le-ltb b 32 (omega arith) in
    let other : nat_eq b 127 ≡ false = false_from_ne_true (nat_eq b 127) (λ e. let is : b ≡ 127 = eqb-true b 127 e in omega arith) in
    rw (visible, other) refl

-- what is printed for a byte has no control byte
all_plain_byte : (b : ℕ) → list_all is_plain_byte (name_byte b) ≡ true
all_plain_byte b = elim (cases_lt b 128) [
  | inl below ↦ agree_below_at (λ c. list_all is_plain_byte (name_byte c)) (λ c. true) 128 b refl below
  | inr above ↦ let plain = above_is_plain b above in rw (byte_as_it_is b plain) (and_from (is_plain_byte b) true plain refl)
]

pub all_plain : (name : List ℕ) → list_all is_plain_byte (shown_name name) ≡ true
all_plain [] = refl
all_plain (b ∷ bs) =
    list_all-append is_plain_byte (name_byte b) (shown_name bs)
    ∙ and_from (list_all is_plain_byte (name_byte b)) (list_all is_plain_byte (shown_name bs)) (all_plain_byte b) (all_plain bs)
