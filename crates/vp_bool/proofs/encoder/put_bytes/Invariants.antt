use Rattle.std.proofs.Common.{◌≡◌, ◌≤◌, ◌+◌, ◌/◌, length}
use Rattle.vp_bool.specs.Spelling.{spells, IsPending}
use Rattle.vp_bool.specs.Window.{AreBytes}
use Rattle.vp_bool.proofs.encoder.put_bytes.Given as goal

-- the bytes that are output and the bits that are pending stay one interval, and there is room for what is to come
abbrev pub invariant-loop-pending : goal.invariant-loop-pending
invariant-loop-pending l = record {
  same : spells l.bytes.items l.pending ≡ spells l.fn.bytes.items l.fn.pending;
  pending : IsPending l.pending;
  most : l.pending.bits ≤ 55;
  bytes : AreBytes l.bytes.items;
  room : length l.bytes.items + (l.pending.bits / 8 + 6) ≤ l.bytes.cap;
}

abbrev pub decreases-loop-pending : goal.decreases-loop-pending
decreases-loop-pending l = l.pending.bits
