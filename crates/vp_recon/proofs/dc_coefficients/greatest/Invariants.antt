-- No number so far is greater.
use Rattle.std.proofs.Common.{ℕ, ◌<◌, ◌≤◌, pos, get_or, unsigned_abs}
use Rattle.vp_recon.proofs.dc_coefficients.greatest.Given as goal

abbrev pub invariant-loop-number : goal.invariant-loop-number
invariant-loop-number l = (i : ℕ) → i < l.number-index → unsigned_abs (get_or l.numbers i (pos 0)) ≤ l.greatest
