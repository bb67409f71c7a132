use Rattle.std.proofs.Common.{◌≡◌, ℕ, take}
use Rattle.vp_stream.specs.Seeking.{saturating_count}
use Rattle.vp_hub.specs.Hub.{AreKept}
use Rattle.vp_hub.specs.Work.{HaveCursors, Costs}
use Rattle.vp_hub.proofs.feed_bytes.feed_bytes.Given as goal

-- the bytes so far led here, and cost what was counted
abbrev pub invariant-loop-byte : goal.invariant-loop-byte
invariant-loop-byte l = record {
  kept : AreKept l.streams.sources l.pictures.kept.cache.entries;
  cursors : HaveCursors l.streams.sources l.pictures.kept.cursors;
  cost : ℕ;
  costs : Costs l.streams (take l.byte-index l.piece) (l.fn.state_of_connection, l.fn.out) (l.state_of_connection, l.out) l.fn.pictures.kept l.pictures.kept cost;
  work : l.pictures.work ≡ saturating_count 0 cost;
}
