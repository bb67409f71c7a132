use Rattle.std.proofs.Common.{◌≡◌, ℕ, ◌++◌, List, length, true}
use Rattle.std.specs.Io.KnownBytes.{Appends}
use Rattle.vp_base.specs.Counted.{counted_contents}
use Rattle.vp_lines.proofs.listing.write_lines.Given as goal

abbrev pub invariant-loop-rest : goal.invariant-loop-rest
invariant-loop-rest g l =
    l.well ≡ true → (front : List ℕ) × (l.lines ≡ front ++ l.rest)
    × Appends (counted_contents g.W.Write.contents l.fn.output) (counted_contents g.W.Write.contents l.output) front

abbrev pub decreases-loop-rest : goal.decreases-loop-rest
decreases-loop-rest g l = length l.rest
