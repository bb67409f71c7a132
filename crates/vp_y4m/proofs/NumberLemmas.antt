-- `parse` on digits gives `number_in`.
use Rattle.std.proofs.Common.{◌≡◌, ◌<◌, ◌^◌, ℕ, List, Bool, true, false, Some, None, Result, Ok, Err, ◌&&◌, nat_lt, length, cond, refl, rules}
use Rattle.std.specs.Char.{is_ascii_digit}
use Rattle.std.specs.List.{list_all}
use Rattle.std.specs.Result.{OkIff, result_ok}
use Rattle.std.specs.Str.{IsUtf8}
use Rattle.std.specs.Str.Parse.{ParsesUnsigned, digits_value}
use Rattle.std.proofs.lemmas.Bool.{ltb-true, lt-ltb}
use Rattle.std.proofs.lemmas.Fmt.{IsAscii-from_digits}
use Rattle.std.proofs.lemmas.Str.{IsUtf8-from_ascii}
use Rattle.std.proofs.lemmas.Str.Parse.{IsNumeralModel, numerals_by_value, parse_digits}
use Rattle.vp_y4m.specs.Header.{number_in}

pub own : IsNumeralModel (λ ds. list_all is_ascii_digit ds ≡ true) (digits_value 10)
own = numerals_by_value _ (search rules)

both_true : (a b : Bool) → (a && b) ≡ true → (a ≡ true) × (b ≡ true)
both_true true b h = (refl, h)
both_true false b h = cc

tested : (n v : ℕ) {E : Type 0} (r : Result ℕ E) → OkIff r ((0 < n) × (v < 2 ^ 32)) v
    → result_ok r ≡ cond (nat_lt 0 n && nat_lt v 4294967296) (Some v) None
tested n v (Ok x) h = rw (lt-ltb 0 n h.0.0, lt-ltb v 4294967296 h.0.1, h.1) refl
tested n v (Err e) h =
    (elim (nat_lt 0 n && nat_lt v 4294967296) as (λ b. (nat_lt 0 n && nat_lt v 4294967296) ≡ b → None ≡ cond b (Some v) None) [
      | true ↦ λ t. let p = both_true _ _ t in absurd (h (ltb-true 0 n p.0, ltb-true v 4294967296 p.1))
      | false ↦ λ t. refl
    ]) refl

pub parse-number_in : {E : Type 0} (text : List ℕ) (r : Result ℕ E) → ParsesUnsigned 32 10 text r
    → list_all is_ascii_digit text ≡ true → result_ok r ≡ number_in text
parse-number_in text r h digits =
    rw digits (tested (length text) (digits_value 10 text) r (parse_digits own 32 text r h digits))

-- digits are text
pub digits_are_text : (text : List ℕ) → list_all is_ascii_digit text ≡ true → IsUtf8 text
digits_are_text text digits = IsUtf8-from_ascii text (IsAscii-from_digits text (own.to text digits))
