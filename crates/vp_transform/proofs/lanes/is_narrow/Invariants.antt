use Rattle.std.proofs.Common.{ℕ, ◌<◌, pos, slice_index_or}
use Rattle.vp_transform.proofs.Narrow.{RaisedWithin}
use Rattle.vp_transform.proofs.lanes.is_narrow.Given as goal

abbrev pub invariant-loop-i : goal.invariant-loop-i
invariant-loop-i l = (k : ℕ) → k < l.i → RaisedWithin l.bound l.bits (slice_index_or l.block k (pos 0))
