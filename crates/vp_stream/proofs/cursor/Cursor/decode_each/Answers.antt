use Rattle.std.proofs.Common.{ap, arith}
use Rattle.vp_stream.specs.Cursor.{Cursor}
use Rattle.vp_stream.proofs.CursorLemmas.{decodes_on}
use Rattle.vp_stream.proofs.cursor.Cursor.decode_each.Goals as goal

pub loop-packet-preserved : goal.loop-packet-preserved
loop-packet-preserved c =
    let inv = c.loop-packet.invariant in (
      decodes_on c.args.self.now c.args.packets.now c.loop-packet.packet-index c.packet-item.result c.loop-packet.self c.decode.new.self c.as_slice.result.now inv.0 c.in_ok-decode.ensures c.as_slice.ensures c.packet-item.is c.loop-packet-test.true,
      omega (arith, inv.1, ap (λ (d : Cursor). d.next) c.in_ok-decode.ensures),
      omega (arith, inv.2),
    )
