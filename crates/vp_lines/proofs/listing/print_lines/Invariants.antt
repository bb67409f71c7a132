use Rattle.std.proofs.Common.{}
use Rattle.std.specs.Io.KnownBytes.{Appends}
use Rattle.vp_lines.specs.Listing.{lines_from}
use Rattle.vp_lines.proofs.listing.print_lines.Given as goal

abbrev pub invariant-loop-place : goal.invariant-loop-place
invariant-loop-place g l =
    Appends (g.W.Write.contents l.fn.output) (g.W.Write.contents l.output) (lines_from l.packets l.first l.place)
