use Rattle.std.proofs.Common.{◌≡◌, ◌<◌, ◌-◌}
use Rattle.vp_tokens.specs.Zeros.{zeros}
use Rattle.vp_tokens.proofs.block.pass_zeros.Given as goal

abbrev pub invariant-loop-position : goal.invariant-loop-position
invariant-loop-position l = record {
  context_in : l.context < 3;
  so_far : zeros l.bands (16 - l.position) l.position l.context l.d ≡ zeros l.bands (16 - l.fn.i) l.fn.i l.fn.context l.fn.d;
}
