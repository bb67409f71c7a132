use Rattle.std.proofs.Common.{◌≡◌, ◌∙◌, false, true, sym, rules, get_or, [], arith}
use Rattle.std.proofs.lemmas.Grind.{common_steps}
use Rattle.std.proofs.lemmas.List.{get_or_read}
use Rattle.std.specs.Result.{is_err}
use Rattle.vp_encode.proofs.WritingLemmas.{packet_done, packet_front, packet_failed, file_front, file_failed}
use Rattle.vp_encode.proofs.encoding.write_file.Given as given
use Rattle.vp_encode.proofs.encoding.write_file.Goals.{After-packet}
use Rattle.vp_encode.proofs.encoding.write_file.Goals as goal

-- the bytes that are written are those of the next packet
next : (g : given.Over) (c : After-packet g) → c.as_slice.result.now ≡ get_or c.args.packets.now c.loop-packet.packet-index []
next g c = c.as_slice.ensures ∙ get_or_read c.args.packets.now c.loop-packet.packet-index c.packet-item.result c.loop-packet-test.true c.packet-item.is []

pub returns-then-is_err : goal.returns-then-is_err
returns-then-is_err g c =
    let inv = c.loop-packet.invariant in
    let bad : is_err c.packet.result ≡ true = grind (arith, common_steps) in
    let is = next g (goal.at.returns-then-is_err g c).After-packet in
    let front = packet_front _ _ _ _ _ _ _ _ _ _ _ _ c.loop-packet-test.true inv.3 is c.packet.ensures.refused c.packet.ensures.stands inv.1 bad in
    let failed = packet_failed _ _ _ _ _ _ _ _ _ _ _ _ c.loop-packet-test.true inv.3 is c.packet.ensures.refused c.packet.ensures.stands inv.1 bad in
    record { ok = tt; prefix = (front.0, front.1, front.2, search (rules, front.3)); device = search (rules, failed); quiet = tt }

pub loop-packet-preserved : goal.loop-packet-preserved
loop-packet-preserved g c =
    let inv = c.loop-packet.invariant in
    let good : is_err c.packet.result ≡ false = grind (arith, common_steps) in
    let is = next g (goal.at.loop-packet-preserved g c).After-packet in (
      false,
      packet_done _ _ _ _ _ _ _ _ _ _ _ _ c.loop-packet-test.true inv.3 is c.packet.ensures.refused c.packet.ensures.stands inv.1 good,
      c.packet.ensures.same_reference ∙ inv.2,
      omega (arith, inv.3),
    )

pub returns-in-Err : goal.returns-in-Err
returns-in-Err g c =
    let inv = c.loop-packet.invariant in
    let fault = sym c.finish.ensures.answer ∙ c.in-Err.is in
    let front = file_front _ _ _ _ _ _ _ _ _ c.loop-packet-test.false fault inv.1 in
    let failed = file_failed _ _ _ _ _ _ _ _ _ c.loop-packet-test.false fault inv.1 in
    record { ok = tt; prefix = (front.0, front.1, front.2, search (rules, front.3)); device = search (rules, failed); quiet = tt }
