use Rattle.vp_lines.proofs.TextLemmas.{next_byte}
use Rattle.vp_lines.proofs.lines.print_json_text.Goals as goal

pub loop-byte-preserved : goal.loop-byte-preserved
loop-byte-preserved g c =
    next_byte c.args.text.now c.loop-byte.byte-index _ _ _ _ c.loop-byte-test.true c.loop-byte.invariant c.in_ok-print_json_byte.ensures
