use Rattle.std.proofs.Common.{◌≡◌, length}
use Rattle.vp_y4m.specs.Header.{either, last_token}
use Rattle.vp_y4m.specs.Shown.{borrowed_text}
use Rattle.vp_y4m.proofs.header.last_text.Given as goal

abbrev pub invariant-loop-token : goal.invariant-loop-token
invariant-loop-token l = either (last_token l.kind l.rest) (borrowed_text l.last) ≡ last_token l.kind l.line

abbrev pub decreases-loop-token : goal.decreases-loop-token
decreases-loop-token l = length l.rest
