use Rattle.std.proofs.Common.{◌≡◌, ◌+◌, take}
use Rattle.vp_stream.specs.Seeking.{state_after_packets}
use Rattle.vp_stream.proofs.seeking.decode_each.Given as goal

abbrev pub invariant-loop-packet : goal.invariant-loop-packet
invariant-loop-packet l =
    (l.decoder.limits ≡ l.fn.decoder.limits)
    × (l.decoder.state ≡ state_after_packets l.fn.decoder.limits l.fn.decoder.state (take l.packet-index l.packets))
    × (l.decoded ≡ l.fn.decoded + l.packet-index)
