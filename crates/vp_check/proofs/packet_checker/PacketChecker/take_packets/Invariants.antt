use Rattle.std.proofs.Common.{◌≡◌, [], length}
use Rattle.vp_check.specs.Checking.{after_packets}
use Rattle.vp_check.proofs.packet_checker.PacketChecker.take_packets.Given as goal

-- what is left leads to what all packets lead to
abbrev pub invariant-loop-packet : goal.invariant-loop-packet
invariant-loop-packet l =
    (after_packets l.self l.file.reading.packets ≡ after_packets l.fn.self l.fn.file.reading.packets)
    × (record l.file { reading = record l.file.reading { packets = [] } } ≡ record l.fn.file { reading = record l.fn.file.reading { packets = [] } })

abbrev pub decreases-loop-packet : goal.decreases-loop-packet
decreases-loop-packet l = length l.file.reading.packets
