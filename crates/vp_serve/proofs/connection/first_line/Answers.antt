use Rattle.std.proofs.Common.{sym, ◌∙◌}
use Rattle.vp_hub.proofs.FirstLine.{line_some, line_none}
use Rattle.vp_serve.proofs.connection.first_line.Goals as goal

pub returns-in-Some-clause-line : goal.returns-in-Some-clause-line
returns-in-Some-clause-line c = line_some c.args.bytes.now c.in-Some.place (sym c.in-Some.is ∙ c.line_feed.ensures.place)

pub returns-in-None-clause-line : goal.returns-in-None-clause-line
returns-in-None-clause-line c = line_none c.args.bytes.now (sym c.in-None.is ∙ c.line_feed.ensures.place)
