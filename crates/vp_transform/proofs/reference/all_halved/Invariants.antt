use Rattle.std.proofs.Common.{◌≡◌, ℕ, ◌<◌, pos, ◌+ℤ◌, get_or, length}
use Rattle.vp_transform.proofs.reference.all_halved.Given as goal
use lib.Signed.{shr_z as floor_div}

abbrev pub invariant-loop-i : goal.invariant-loop-i
invariant-loop-i l = record { size : length l.block ≡ 16; done : (k : ℕ) → k < l.i → get_or l.block k (pos 0) ≡ floor_div (get_or l.x k (pos 0) +ℤ pos 1) 2 }
