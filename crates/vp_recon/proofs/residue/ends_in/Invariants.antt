-- No block so far has more tokens.
use Rattle.std.proofs.Common.{ℕ, ◌+◌, ◌<◌}
use Rattle.vp_recon.proofs.Words.{block_of, HasUpTo}
use Rattle.vp_recon.proofs.residue.ends_in.Given as goal

abbrev pub invariant-loop-i : goal.invariant-loop-i
invariant-loop-i l = (j : ℕ) → j < l.i → HasUpTo l.ends (block_of l.tokens (l.first + j))
