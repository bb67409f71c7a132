use Rattle.std.proofs.Common.{◌≡◌, ◌++◌, ◌-◌, take, length}
use Rattle.vp_tokens.specs.Partitions.{lists}
use Rattle.vp_tokens.proofs.PuttingLemmas.{table, joined}
use Rattle.vp_tokens.proofs.partitions.Partitions.put.Given as goal

abbrev pub invariant-loop-part : goal.invariant-loop-part
invariant-loop-part l = l.bytes.items ≡ table (take (length l.parts - 1) (lists l.parts)) ++ joined (take l.part-index (lists l.parts))
