use Rattle.std.proofs.Common.{◌≡◌, ℕ, ◌<◌, length, get_or}
use Rattle.vp_tokens.specs.Block.{no_tokens}
use Rattle.vp_tokens.specs.Spelled.{levels_of}
use Rattle.vp_tokens.proofs.Making.{IsMade}
use Rattle.vp_tokens.proofs.contexts.Tokens.of_levels.Given as goal

abbrev pub invariant-loop-k : goal.invariant-loop-k
invariant-loop-k l = record {
  whole : length l.blocks ≡ 25;
  made : (k : ℕ) → k < l.k → IsMade (levels_of l.levels k) (get_or l.blocks k no_tokens);
}
