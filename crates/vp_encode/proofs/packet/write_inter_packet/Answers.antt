use Rattle.std.proofs.lemmas.Result.{IfOk-weaker}
use Rattle.vp_encode.proofs.PacketLemmas.{inter_said}
use Rattle.vp_encode.proofs.packet.write_inter_packet.Goals as goal

pub returns-clause-packet : goal.returns-clause-packet
returns-clause-packet c =
    IfOk-weaker c.write_packet.result _ _ (λ v x. inter_said c.args.saved.now c.args.segments.now c.args.coded.now v x)
    (rw c.in_ok-before.ensures at c.write_packet.ensures.packet)
