use Rattle.std.proofs.Common.{◌≡◌, ◌+◌}
use Rattle.vp_bool.specs.Reader.{rows}
use Rattle.vp_tokens.specs.Placed.{reading, placed}
use Rattle.vp_tokens.proofs.macroblock.read_plane.Given as goal

abbrev pub invariant-loop-i : goal.invariant-loop-i
invariant-loop-i l = record {
  so_far : rows l.i (λ j. placed l.bands l.first (l.k + j)) (reading l.fn.blocks l.fn.flags) l.fn.d ≡ (reading l.blocks l.flags, l.own);
}
