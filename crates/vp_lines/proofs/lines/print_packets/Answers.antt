use Rattle.vp_lines.specs.CheckLines.{line_form}
use Rattle.vp_lines.proofs.TextLemmas.{next_text}
use Rattle.vp_lines.proofs.lines.print_packets.Goals as goal

pub loop-number-preserved : goal.loop-number-preserved
loop-number-preserved g c =
    next_text (line_form c.args.line) c.args.packets.now c.loop-number.number _ _ _ _ c.loop-number-test.true c.loop-number.invariant c.in_ok-print_packet.ensures
