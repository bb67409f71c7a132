use Rattle.std.proofs.Common.{◌≡◌, ◌++◌, ◌≤◌, ℕ, List, length}
use Rattle.std.specs.List.{concat}
use Rattle.vp_base.specs.Counted.{counted_contents, counted_failures}
use Rattle.vp_hub.specs.Sessions.{GoesOn}
use Rattle.vp_hub.proofs.session.answer_lines.Given as goal

abbrev pub invariant-loop-rest : goal.invariant-loop-rest
invariant-loop-rest g l =
    (lines : List (List ℕ))
    × (l.fn.piece ≡ concat lines ++ l.rest)
    × GoesOn l.fn.conn lines l.fn.hub l.hub (counted_contents g.W.Write.contents l.fn.writer) (counted_contents g.W.Write.contents l.writer)
    × (counted_failures l.writer ≡ counted_failures l.fn.writer)
    × (length l.rest ≤ 4096)

abbrev pub decreases-loop-rest : goal.decreases-loop-rest
decreases-loop-rest g l = length l.rest
