-- Private to the crate: when numbers fit. A weighted sum of six pixels does after 16384 is subtracted.
use Rattle.std.specs.Prelude.{◌≡◌, ◌+◌, ◌<◌, ℕ, ℤ, pos, negsuc, ◌+ℤ◌, ◌-ℤ◌, ◌*ℤ◌, ◌≤ℤ◌, List, slice_index_or}

-- z is from low to high
abbrev pub IsFrom : ℤ → ℤ → ℤ → Type 0
IsFrom low high z = (low ≤ℤ z) × (z ≤ℤ high)

-- a column or row is near enough that those of a block fit in i32, and so are those up to n further on
abbrev pub IsNearWithin : ℕ → ℤ → Type 0
IsNearWithin n = IsFrom (negsuc 400000000) (pos (400000000 + n))

abbrev pub IsNear : ℤ → Type 0
IsNear = IsNearWithin 0

-- z fits in i16
abbrev pub IsShort : ℤ → Type 0
IsShort = IsFrom (negsuc 32767) (pos 32767)

-- weight k of a list of weights
abbrev pub weight : List ℤ → ℕ → ℤ
weight weights k = slice_index_or weights k (pos 0)

-- the weighted sum of two pixels
abbrev pub pair : ℕ → ℕ → ℤ → ℤ → ℤ
pair a b weight_a weight_b = pos a *ℤ weight_a +ℤ pos b *ℤ weight_b

-- the weighted sums of the middle two, the middle four, and all six pixels, each plus 64 for rounding and minus 16384
abbrev pub sum_of_two : List ℤ → (ℕ → ℕ) → ℤ
sum_of_two weights pixel = pair (pixel 2) (pixel 3) (weight weights 2) (weight weights 3) -ℤ pos 16320

abbrev pub sum_of_four : List ℤ → (ℕ → ℕ) → ℤ
sum_of_four weights pixel = sum_of_two weights pixel +ℤ pair (pixel 1) (pixel 4) (weight weights 1) (weight weights 4)

abbrev pub sum_of_six : List ℤ → (ℕ → ℕ) → ℤ
sum_of_six weights pixel = sum_of_four weights pixel +ℤ pair (pixel 0) (pixel 5) (weight weights 0) (weight weights 5)

-- weights outside the middle count of six are 0
abbrev pub OuterWeightsAreZero : List ℤ → ℕ → Type 0
OuterWeightsAreZero weights count =
    (count < 6 → (weight weights 0 ≡ pos 0) × (weight weights 5 ≡ pos 0))
    × (count < 4 → (weight weights 1 ≡ pos 0) × (weight weights 4 ≡ pos 0))

-- Weights that fit in i8 and whose sums fit in i16. The middle two are nonnegative, and their sum is at most 154. The
-- second and the fifth are from -16 to 0, the first and the last from 0 to 3. Weights three apart add up to at most
-- 128.
abbrev pub SumsFitI16 : List ℤ → Type 0
SumsFitI16 weights =
    IsFrom (pos 0) (pos 3) (weight weights 0) × IsFrom (negsuc 15) (pos 0) (weight weights 1)
    × IsFrom (pos 0) (pos 127) (weight weights 2) × IsFrom (pos 0) (pos 127) (weight weights 3)
    × ((weight weights 2 +ℤ weight weights 3) ≤ℤ pos 154)
    × IsFrom (negsuc 15) (pos 0) (weight weights 4) × IsFrom (pos 0) (pos 3) (weight weights 5)
    × ((weight weights 0 +ℤ weight weights 3) ≤ℤ pos 128) × ((weight weights 2 +ℤ weight weights 5) ≤ℤ pos 128)

-- two weights of a multiply-add whose sum fits in i16
abbrev pub ArePairable : ℤ → ℤ → Type 0
ArePairable u v = IsFrom (negsuc 15) (pos 127) u × IsFrom (negsuc 15) (pos 127) v × ((u +ℤ v) ≤ℤ pos 128)
