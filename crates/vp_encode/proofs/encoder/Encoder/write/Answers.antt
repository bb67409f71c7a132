use Rattle.std.proofs.Common.{ap, sym, subst}
use Rattle.std.specs.Prelude.{IfOk, IfErr, Option, None, is_none, ◌≡◌}
use Rattle.std.proofs.lemmas.Result.{IfOk-weaker}
use Rattle.vp_head.specs.Reference.{is_intra}
use Rattle.vp_decode.specs.Step.{DecoderState}
use Rattle.vp_encode.specs.declared.fault.PacketError.TheVariants.{TooLong}
use Rattle.vp_base.specs.declared.limits.Dim.{Dim}
use Rattle.vp_encode.specs.Between.{IsPacketOver}
use Rattle.vp_encode.specs.CodedFrame.{CanBeEncoded}
use Rattle.vp_encode.specs.Encoder.{EncoderState, context_over}
use Rattle.vp_encode.specs.PacketContents.{IsKeyFramePacket}
use Rattle.vp_encode.specs.TooLong.{IsTooLongOver}
use Rattle.vp_encode.proofs.PacketLemmas.{key_said, inter_said}
use Rattle.vp_encode.proofs.encoder.Encoder.write.Goals as goal

pub returns-in_ok-before-in-Some-clause-packet : goal.returns-in_ok-before-in-Some-clause-packet
returns-in_ok-before-in-Some-clause-packet c =
    subst (λ (o : Option DecoderState). IfOk c.write_packet.result (λ v. IsPacketOver c.args.self.now.dim o c.args.coded.now v)) c.in-Some.ensures.value
    (IfOk-weaker c.write_packet.result _ _ (λ v x. inter_said c.in-Some.kept.now.saved c.in-Some.kept.now.segments c.args.coded.now v x)
    (rw (c.in_ok-before-in-Some.ensures, c.saved.ensures, c.segments.ensures) at c.write_packet.ensures.packet))

pub returns-in_ok-before-in-Some-clause-too_long : goal.returns-in_ok-before-in-Some-clause-too_long
returns-in_ok-before-in-Some-clause-too_long c =
    subst (λ (o : Option DecoderState). IfErr c.write_packet.result (λ e. e ≡ TooLong → IsTooLongOver c.args.self.now.dim o c.args.coded.now)) c.in-Some.ensures.value
    (rw (c.in_ok-before-in-Some.ensures, c.saved.ensures, c.segments.ensures) at c.write_packet.ensures.too_long)

pub returns-in_ok-before-in-None-clause-packet : goal.returns-in_ok-before-in-None-clause-packet
returns-in_ok-before-in-None-clause-packet c =
    let told = subst (λ (o : Option DecoderState). CanBeEncoded (is_none o) (context_over c.args.self.now.dim o).saved (context_over c.args.self.now.dim o).modes c.args.coded.now) (sym c.in-None.ensures.value) c.requires.told in
    let dim : c.self.inside.dim ≡ c.args.self.now.dim = ap (λ (x : EncoderState). x.dim) c.self.view_is in
    subst (λ (o : Option DecoderState). IfOk c.write_packet-in-None.result (λ v. IsPacketOver c.args.self.now.dim o c.args.coded.now v)) c.in-None.ensures.value
    (subst (λ (d : Dim). IfOk c.write_packet-in-None.result (λ v. IsKeyFramePacket d c.args.coded.now v)) dim
    (IfOk-weaker c.write_packet-in-None.result _ _
    (λ v x. key_said c.self.inside.dim c.args.coded.now v x (λ p inside. ap is_intra ((told.modes p inside).reference told.header.kind)))
    (rw (c.key_tag.ensures, c.defaults.ensures, c.in_ok-before-in-None.ensures) at c.write_packet-in-None.ensures.packet)))

pub returns-in_ok-before-in-None-clause-too_long : goal.returns-in_ok-before-in-None-clause-too_long
returns-in_ok-before-in-None-clause-too_long c =
    let dim : c.self.inside.dim ≡ c.args.self.now.dim = ap (λ (x : EncoderState). x.dim) c.self.view_is in
    subst (λ (o : Option DecoderState). IfErr c.write_packet-in-None.result (λ e. e ≡ TooLong → IsTooLongOver c.args.self.now.dim o c.args.coded.now)) c.in-None.ensures.value
    (subst (λ (d : Dim). IfErr c.write_packet-in-None.result (λ e. e ≡ TooLong → IsTooLongOver d None c.args.coded.now)) dim
    (rw (c.key_tag.ensures, c.defaults.ensures, c.in_ok-before-in-None.ensures) at c.write_packet-in-None.ensures.too_long))
