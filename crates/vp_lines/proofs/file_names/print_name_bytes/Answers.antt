use Rattle.vp_lines.proofs.NameLemmas.{next_name_byte}
use Rattle.vp_lines.proofs.file_names.print_name_bytes.Goals as goal

pub loop-byte-preserved : goal.loop-byte-preserved
loop-byte-preserved g c =
    next_name_byte c.args.name.now c.loop-byte.byte-index _ _ _ _ c.loop-byte-test.true c.loop-byte.invariant c.in_ok-print_name_byte.ensures
