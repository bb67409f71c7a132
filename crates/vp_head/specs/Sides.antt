-- Two facts on the range of a picture's sides, required by the type of sizes (RFC 6386, chapter 9.1).
use Rattle.std.specs.Prelude.{ℕ, suc, ◌/◌, ◌%◌, ◌^◌, ◌<◌, ◌≤◌}
use Rattle.std.proofs.Common.{lit<}
use Rattle.std.proofs.Math.Nat.{zero-lt-suc, mod-lt, le-pred_of_lt}

pub is_side : (n : ℕ) → suc n ≤ 16383 → (0 < suc n) × (suc n ≤ 16383)
is_side n p = (zero-lt-suc n, p)

pub is_below_16384 : (n : ℕ) → n / 2 ^ 0 % 2 ^ 14 ≤ 16383
is_below_16384 n = le-pred_of_lt (mod-lt (n / 2 ^ 0) (lit< tt))
