use Rattle.std.proofs.Common.{sym}
use Rattle.vp_bool.proofs.WritingLemmas.{Writes-then, Continues-given}
use Rattle.vp_modes.specs.Modes.{inter_reference}
use Rattle.vp_modes.proofs.writing.write_inter_reference.Goals as goal

pub returns-in_ok-write-in-Last : goal.returns-in_ok-write-in-Last
unfolding inter_reference
returns-in_ok-write-in-Last c = Writes-then _ c.in_ok-write-in-Last.ensures.reads (Continues-given (sym c.in-Last.is) _)

pub returns-in_ok-write-in-Golden-2 : goal.returns-in_ok-write-in-Golden-2
unfolding inter_reference
returns-in_ok-write-in-Golden-2 c =
    Writes-then _ c.in_ok-write-in-Golden.ensures.reads (Writes-then _ c.in_ok-write-in-Golden-2.ensures.reads (Continues-given (sym c.in-Golden.is) _))

pub returns-in_ok-write-in-Alt-2 : goal.returns-in_ok-write-in-Alt-2
unfolding inter_reference
returns-in_ok-write-in-Alt-2 c =
    Writes-then _ c.in_ok-write-in-Alt.ensures.reads (Writes-then _ c.in_ok-write-in-Alt-2.ensures.reads (Continues-given (sym c.in-Alt.is) _))
