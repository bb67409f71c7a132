-- How long a number's text is, and its last digit.
use Rattle.std.proofs.Common.{◌≡◌, ◌∙◌, ◌<◌, ◌≤◌, ◌+◌, ◌/◌, ◌%◌, ◌^◌, ℕ, [], ◌∷◌, ◌++◌, length, length-append, ap, arith}
use Rattle.std.specs.Fmt.{decimal}
use Rattle.std.proofs.lemmas.Fmt.{decimal_digit, decimal_step, length-decimal-le}

-- a number of 32 bits has ten digits at most
pub decimal_is_short : (n : ℕ) → n < 2 ^ 32 → length (decimal n) ≤ 10
decimal_is_short n small = length-decimal-le 10 n (omega arith) (omega arith) (omega arith)

pub decimal_of_one : (n : ℕ) → n < 10 → decimal n ≡ (48 + n % 10) ∷ []
decimal_of_one n small = let e : n % 10 ≡ n = omega arith in rw e (decimal_digit n small)

pub decimal_of_more : (n : ℕ) → n < 2 ^ 32 → 10 ≤ n → decimal n ≡ decimal (n / 10) ++ (48 + n % 10) ∷ []
decimal_of_more n small large = decimal_step n large (omega arith)

pub length_of_more : (n : ℕ) → n < 2 ^ 32 → 10 ≤ n → length (decimal n) ≡ length (decimal (n / 10)) + 1
length_of_more n small large = ap length (decimal_of_more n small large) ∙ length-append (decimal (n / 10)) ((48 + n % 10) ∷ [])
