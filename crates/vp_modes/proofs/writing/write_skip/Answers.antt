use Rattle.std.proofs.Common.{sym}
use Rattle.vp_bool.proofs.WritingLemmas.{Continues-given}
use Rattle.vp_modes.proofs.writing.write_skip.Goals as goal

pub returns-in_default : goal.returns-in_default
returns-in_default c = rw c.in_default.is (Continues-given (sym (c.requires c.in_default.is)) _)
