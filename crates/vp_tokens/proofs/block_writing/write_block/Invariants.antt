use Rattle.std.proofs.Common.{◌≡◌, ◌<◌, ◌≤◌, ◌-◌, ◌⊎◌}
use Rattle.vp_bool.specs.Writing.{Continues}
use Rattle.vp_tokens.specs.Levels.{coefficient_block, first_of}
use Rattle.vp_tokens.proofs.LevelLemmas.{tokens_from}
use Rattle.vp_tokens.proofs.BlockWriting.{so_far}
use Rattle.vp_tokens.proofs.block_writing.write_block.Given as goal

abbrev pub invariant-loop-i : goal.invariant-loop-i
invariant-loop-i l = record {
  context_in : l.context < 3;
  from_in : (l.from ≡ 0) ⊎ ((l.from ≡ 2) × (l.i < 16 → l.i < l.end));
  before : first_of l.fn.kind < l.i → l.i ≤ l.end;
  left : Continues (coefficient_block l.fn.probabilities l.fn.kind l.fn.context) (tokens_from l.bands (16 - l.i) l.i l.context l.from (so_far (first_of l.fn.kind) l.i l.what)) l.fn.e l.e;
}
