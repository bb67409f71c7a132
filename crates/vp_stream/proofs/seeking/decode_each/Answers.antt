use Rattle.std.proofs.Common.{arith}
use Rattle.vp_stream.proofs.AnswerLemmas.{decoded_on}
use Rattle.vp_stream.proofs.seeking.decode_each.Goals as goal

pub loop-packet-preserved : goal.loop-packet-preserved
loop-packet-preserved c =
    let on = decoded_on c.args.decoder.now.limits c.args.decoder.now.state c.args.packets.now c.loop-packet.packet-index c.packet-item.result
    c.loop-packet.decoder c.decode.new.self c.as_slice.result.now c.loop-packet.invariant.0 c.loop-packet.invariant.1
    c.in_ok-decode.ensures.after c.as_slice.ensures c.packet-item.is c.loop-packet-test.true in
    (on.0, on.1, omega (arith, c.loop-packet.invariant.2))
