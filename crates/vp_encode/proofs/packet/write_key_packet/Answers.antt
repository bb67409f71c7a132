use Rattle.std.proofs.Common.{ap}
use Rattle.std.proofs.lemmas.Result.{IfOk-weaker}
use Rattle.vp_head.specs.Reference.{is_intra}
use Rattle.vp_encode.proofs.PacketLemmas.{key_said}
use Rattle.vp_encode.proofs.packet.write_key_packet.Goals as goal

pub returns-clause-packet : goal.returns-clause-packet
returns-clause-packet c =
    let told = c.requires.told in
    IfOk-weaker c.write_packet.result _ _
    (λ v x. key_said c.args.dim c.args.coded.now v x (λ p inside. ap is_intra ((told.modes p inside).reference told.header.kind)))
    (rw (c.defaults.ensures, c.in_ok-before.ensures, c.key_tag.ensures) at c.write_packet.ensures.packet)
