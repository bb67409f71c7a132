use Rattle.std.proofs.Common.{◌≡◌, ◌++◌, take}
use Rattle.std.specs.List.{flat_map}
use Rattle.vp_tokens.specs.Partitions.{lists, size_bytes}
use Rattle.vp_tokens.proofs.partitions.put_sizes.Given as goal

abbrev pub invariant-loop-part : goal.invariant-loop-part
invariant-loop-part l = l.bytes.items ≡ l.fn.bytes.items ++ flat_map size_bytes (take l.part-index (lists l.parts))
