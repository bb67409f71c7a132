use Rattle.std.proofs.Common.{take}
use Rattle.std.specs.Io.KnownBytes.{Appends}
use Rattle.vp_lines.specs.CheckLines.{line_form, packet_texts}
use Rattle.vp_lines.proofs.lines.print_packets.Given as goal

abbrev pub invariant-loop-number : goal.invariant-loop-number
invariant-loop-number g l =
    Appends (g.W.Write.contents l.fn.output) (g.W.Write.contents l.output) (packet_texts (line_form l.line) 0 (take l.number l.packets))
