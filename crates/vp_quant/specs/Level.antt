-- The encoder's quantisation of a coefficient: to the nearest level, halves away from 0, at most 2,047. RFC 6386 does
-- not define it. Pinned by the test `kernel_examples`.
use Rattle.std.specs.Prelude.{ℕ, suc, ◌+◌, ◌/◌, min, ℤ, pos, negsuc, neg_ℤ}

-- size / factor, rounded to the nearest, halves up, and at most 2047
abbrev pub quantised_magnitude : ℕ → ℕ → ℕ
quantised_magnitude factor size = min ((size + factor / 2) / factor) 2047

-- the coefficient quantised: the quantised magnitude with the coefficient's sign
unfoldable pub quantised : ℤ → ℕ → ℤ
quantised (pos n) factor = pos (quantised_magnitude factor n)
quantised (negsuc n) factor = neg_ℤ (pos (quantised_magnitude factor (suc n)))
