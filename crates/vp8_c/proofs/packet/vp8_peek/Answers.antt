use Rattle.std.proofs.Common.{◌∙◌, refl, sym, subst}
use Rattle.std.specs.Prelude.{Result}
use Rattle.vp_head.specs.declared.fields.Tag.{Tag}
use Rattle.vp_head.specs.declared.fault.PacketFault.{PacketFault}
use Rattle.vp8_c.specs.declared.status.TheConstants.{OK}
use Rattle.vp8_c.specs.Arguments.{GivesOrFails, Puts, result_map}
use Rattle.vp8_c.specs.Packets.{packet_info, value_or_status}
use Rattle.vp8_c.proofs.TagLemmas.{same_tag}
use Rattle.vp8_c.proofs.packet.vp8_peek.Goals as goal

pub returns-in-Ok : goal.returns-in-Ok
returns-in-Ok c limits e =
    subst (λ (t : Result Tag PacketFault). GivesOrFails Puts (result_map packet_info (value_or_status t)) OK c.args.info.now c.info_of.result)
    (c.in-Ok.ensures.value ∙ same_tag _ limits c.args.packet.now (sym e)) (refl, c.info_of.ensures)

pub returns-in-Err : goal.returns-in-Err
returns-in-Err c limits e =
    subst (λ (t : Result Tag PacketFault). GivesOrFails Puts (result_map packet_info (value_or_status t)) c.fault_number.result c.args.info.now c.args.info.now)
    (c.in-Err.ensures.value ∙ same_tag _ limits c.args.packet.now (sym e)) (c.fault_number.ensures, refl)
