use Rattle.std.proofs.Common.{rules}
use Rattle.vp_app.proofs.service.feed_piece.Goals as goal

pub returns-clause-fed : goal.returns-clause-fed
returns-clause-fed g c = (_, search rules, c.feed_bytes.ensures.fed _)
