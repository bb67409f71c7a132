use Rattle.vp_stream.proofs.CursorLemmas.{outlives, ended}
use Rattle.vp_stream.proofs.laws.cursor_outlives_a_feed.Goals as goal

pub returns-clause-piece : goal.returns-clause-piece
returns-clause-piece c cursor stream piece is = outlives cursor stream piece is

pub returns-clause-end : goal.returns-clause-end
returns-clause-end c cursor stream is = ended cursor stream is
