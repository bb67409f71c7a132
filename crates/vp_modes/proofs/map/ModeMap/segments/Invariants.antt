use Rattle.std.proofs.Common.{◌≡◌, ◌+◌, ◌-◌, ◌≤◌, length, map, take, vec_len, vec_capacity}
use Rattle.vp_modes.proofs.map.ModeMap.segments.Given as goal

abbrev pub invariant-loop-modes : goal.invariant-loop-modes
invariant-loop-modes l = record {
  items : l.segments.items ≡ map (λ m. m.segment) (take l.modes-index l.entries);
  room : vec_len l.segments + (length l.entries - l.modes-index) ≤ vec_capacity l.segments;
}
