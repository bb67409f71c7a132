use Rattle.std.proofs.Common.{◌≡◌, ℕ, ◌≤◌, pos, get_or}
use Rattle.vp_tokens.proofs.block.Block.of_levels.Given as goal

abbrev pub invariant-loop-end : goal.invariant-loop-end
invariant-loop-end l = record {
  few : l.end ≤ 16;
  zeros : (i : ℕ) → l.end ≤ i → get_or l.levels i (pos 0) ≡ pos 0;
}

abbrev pub decreases-loop-end : goal.decreases-loop-end
decreases-loop-end l = l.end
