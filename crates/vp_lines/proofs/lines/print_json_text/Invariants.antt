use Rattle.std.proofs.Common.{take}
use Rattle.std.specs.Io.KnownBytes.{Appends}
use Rattle.vp_lines.specs.CheckLines.{json_text}
use Rattle.vp_lines.proofs.lines.print_json_text.Given as goal

abbrev pub invariant-loop-byte : goal.invariant-loop-byte
invariant-loop-byte g l =
    Appends (g.W.Write.contents l.fn.output) (g.W.Write.contents l.output) (json_text (take l.byte-index l.text))
