use Rattle.vp_mio.proofs.PlainLines.{printable}
use Rattle.vp_mio.proofs.laws.plain_lines_are_printable.Goals as goal

pub returns : goal.returns
returns c = printable
