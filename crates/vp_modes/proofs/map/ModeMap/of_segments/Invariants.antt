use Rattle.std.proofs.Common.{◌≡◌, ◌+◌, ◌-◌, ◌≤◌, length, map, take, vec_len, vec_capacity}
use Rattle.vp_modes.specs.Entry.{plain_of}
use Rattle.vp_modes.proofs.map.ModeMap.of_segments.Given as goal

abbrev pub invariant-loop-segment : goal.invariant-loop-segment
invariant-loop-segment l = record {
  items : l.entries.items ≡ map plain_of (take l.segment-index l.kept);
  room : vec_len l.entries + (length l.kept - l.segment-index) ≤ vec_capacity l.entries;
}
