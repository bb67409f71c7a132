use Rattle.std.proofs.Common.{◌≡◌, ◌+◌, ◌<◌, ◌≤◌, ◌^◌, ◌++◌, [], length, vec_len}
use Rattle.std.specs.Vec.{vec_capacity}
use Rattle.vp_stream.specs.Seeking.{AreKeys}
use Rattle.vp_stream.proofs.seeking.keep_waiting.Given as goal

abbrev pub invariant-loop-packet : goal.invariant-loop-packet
invariant-loop-packet l =
    (l.packets.items ++ l.reader.reading.packets ≡ l.fn.packets.items ++ l.fn.reader.reading.packets)
    × (record l.reader { reading = record l.reader.reading { packets = [] } } ≡ record l.fn.reader { reading = record l.fn.reader.reading { packets = [] } })
    × AreKeys l.packets.items l.keys.items
    × (vec_len l.packets + length l.reader.reading.packets ≤ vec_capacity l.packets)
    × (vec_len l.keys + length l.reader.reading.packets ≤ vec_capacity l.keys)
    × (vec_len l.packets + length l.reader.reading.packets < 2 ^ 32)

abbrev pub decreases-loop-packet : goal.decreases-loop-packet
decreases-loop-packet l = length l.reader.reading.packets
