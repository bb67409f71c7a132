use Rattle.std.proofs.Common.{take}
use Rattle.std.specs.Io.KnownBytes.{Appends}
use Rattle.vp_lines.specs.CheckLines.{shown_name}
use Rattle.vp_lines.proofs.file_names.print_name_bytes.Given as goal

abbrev pub invariant-loop-byte : goal.invariant-loop-byte
invariant-loop-byte g l =
    Appends (g.W.Write.contents l.fn.output) (g.W.Write.contents l.output) (shown_name (take l.byte-index l.name))
