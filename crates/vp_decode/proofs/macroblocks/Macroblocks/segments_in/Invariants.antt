use Rattle.std.proofs.Common.{◌≡◌, ◌+◌, ◌-◌, ◌≤◌, length, map, take, vec_len, vec_capacity}
use Rattle.vp_decode.proofs.macroblocks.Macroblocks.segments_in.Given as goal

abbrev pub invariant-loop-macroblock : goal.invariant-loop-macroblock
invariant-loop-macroblock l = record {
  items : l.segments.items ≡ map (λ m. m.modes.segment) (take l.macroblock-index l.macroblocks);
  room : vec_len l.segments + (length l.macroblocks - l.macroblock-index) ≤ vec_capacity l.segments;
}
