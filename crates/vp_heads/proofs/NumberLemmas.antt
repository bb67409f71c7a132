-- `parse` on digits gives `count_in`.
use Rattle.std.proofs.Common.{◌≡◌, ◌<◌, ◌^◌, ◌-◌, ℕ, List, true, Some, Result, Ok, Err, length, rules, min, arith, ap, sym, ◌∙◌}
use Rattle.std.specs.Char.{is_ascii_digit}
use Rattle.std.specs.List.{list_all}
use Rattle.std.specs.Result.{OkIff, result_unwrap_or}
use Rattle.std.specs.Str.{IsUtf8}
use Rattle.std.specs.Str.Parse.{ParsesUnsigned, digits_value}
use Rattle.std.proofs.lemmas.Bool.{lt-ltb}
use Rattle.std.proofs.lemmas.Bool.Decides.{nat_tests}
use Rattle.std.proofs.lemmas.Fmt.{IsAscii-from_digits}
use Rattle.std.proofs.lemmas.Str.{IsUtf8-from_ascii}
use Rattle.std.proofs.lemmas.Str.Parse.{IsNumeralModel, numerals_by_value, parse_digits}
use Rattle.vp_heads.specs.Numbers.{count_in}

own : IsNumeralModel (λ ds. list_all is_ascii_digit ds ≡ true) (digits_value 10)
own = numerals_by_value _ (search rules)

-- digits are text
pub digits_are_text : (text : List ℕ) → list_all is_ascii_digit text ≡ true → IsUtf8 text
digits_are_text text digits = IsUtf8-from_ascii text (IsAscii-from_digits text (own.to text digits))

at_most : (v : ℕ) → v < 2 ^ 64 → min v (2 ^ 64 - 1) ≡ v
at_most v h = omega (arith, h)

over : (v : ℕ) → (v < 2 ^ 64 → ⊥) → min v (2 ^ 64 - 1) ≡ 2 ^ 64 - 1
over v h = grind (arith, nat_tests, h)

by_result : (n v : ℕ) {E : Type 0} (r : Result ℕ E) → 0 < n → OkIff r ((0 < n) × (v < 2 ^ 64)) v → result_unwrap_or r (2 ^ 64 - 1) ≡ min v (2 ^ 64 - 1)
by_result n v (Ok x) some h = h.1 ∙ sym (at_most v h.0.1)
by_result n v (Err e) some h = sym (over v (λ l. h (some, l)))

-- what is parsed, or the greatest number
pub parse-count_in : {E : Type 0} (text : List ℕ) (r : Result ℕ E) → ParsesUnsigned 64 10 text r
    → list_all is_ascii_digit text ≡ true → 0 < length text → Some (result_unwrap_or r (2 ^ 64 - 1)) ≡ count_in text
parse-count_in text r h digits some =
    rw (digits, lt-ltb 0 (length text) some) (ap Some (by_result (length text) (digits_value 10 text) r some (parse_digits own 64 text r h digits)))
