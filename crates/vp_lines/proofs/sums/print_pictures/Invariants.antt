use Rattle.std.proofs.Common.{◌≡◌, ℕ, List, length}
use Rattle.std.specs.Io.KnownBytes.{Appends}
use Rattle.vp_base.specs.Counted.{counted_contents}
use Rattle.vp_lines.specs.Sums.{picture_lines}
use Rattle.vp_lines.proofs.sums.print_pictures.Given as goal

abbrev pub invariant-loop-number : goal.invariant-loop-number
invariant-loop-number g l =
    (digits : List (List ℕ)) × (length digits ≡ l.number)
    × Appends (counted_contents g.W.Write.contents l.fn.output) (counted_contents g.W.Write.contents l.output) (picture_lines 0 digits)
