use Rattle.std.proofs.Common.{sym}
use Rattle.vp_bool.proofs.WritingLemmas.{Writes-then, Continues-given}
use Rattle.vp_head.specs.Header.{skip}
use Rattle.vp_head.proofs.row_writing.write_skip.Goals as goal

pub returns-in_ok-write-in-None : goal.returns-in_ok-write-in-None
unfolding skip
returns-in_ok-write-in-None c = Writes-then _ c.in_ok-write-in-None.ensures.reads (Continues-given (sym c.in-None.is) _)

pub returns-in_ok-literal-in-Some : goal.returns-in_ok-literal-in-Some
unfolding skip
returns-in_ok-literal-in-Some c =
    Writes-then _ c.in_ok-write-in-Some.ensures.reads (Writes-then _ c.in_ok-literal-in-Some.ensures.reads (Continues-given (sym c.in-Some.is) _))
