use Rattle.std.proofs.Common.{◌≡◌, ◌<◌, ◌≤◌, ◌-◌}
use Rattle.vp_tokens.specs.Block.{IsBlock}
use Rattle.vp_tokens.specs.Placed.{banded}
use Rattle.vp_tokens.proofs.LevelLemmas.{tokens_from}
use Rattle.vp_tokens.proofs.block.read_block.Given as goal

abbrev pub invariant-loop-i : goal.invariant-loop-i
invariant-loop-i l = record {
  context_in : l.context < 3;
  before : l.found.end ≤ l.i;
  good : IsBlock l.found;
  inside : l.i ≤ 16;
  so_far : tokens_from l.bands (16 - l.i) l.i l.context 0 l.found l.d ≡ banded l.bands l.fn.first l.fn.context l.fn.d;
}

abbrev pub decreases-loop-i : goal.decreases-loop-i
decreases-loop-i l = 16 - l.i
