use Rattle.std.proofs.Common.{◌≤◌, ◌<◌, ℕ, length, get_or, []}
use Rattle.vp_tokens.specs.Partitions.{lists}
use Rattle.vp_encode.proofs.packet.are_short.Given as goal

abbrev pub invariant-loop-part : goal.invariant-loop-part
invariant-loop-part l = (i : ℕ) → i < l.part-index → length (get_or (lists l.parts) i []) ≤ 16777215
