use Rattle.std.proofs.Common.{◌≡◌, ◌+◌, take}
use Rattle.vp_stream.specs.Cursor.{cursor_after_packets}
use Rattle.vp_stream.proofs.cursor.Cursor.decode_each.Given as goal

abbrev pub invariant-loop-packet : goal.invariant-loop-packet
invariant-loop-packet l =
    (l.self ≡ cursor_after_packets l.fn.self (take l.packet-index l.packets))
    × (l.self.next ≡ l.fn.self.next + l.packet-index)
    × (l.decoded ≡ l.fn.decoded + l.packet-index)
