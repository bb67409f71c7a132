use Rattle.vp_ivf.proofs.Stands.{stands_resumed}
use Rattle.vp_ivf.proofs.reader.Reader.feed.Goals as goal

pub returns-clause-stands : goal.returns-clause-stands
returns-clause-stands c = λ calm kept h s. stands_resumed _ _ h c.args.piece.now (c.take_piece.ensures.reading kept) s
