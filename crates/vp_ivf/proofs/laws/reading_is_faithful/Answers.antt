use Rattle.vp_ivf.proofs.Faithful.{is_faithful}
use Rattle.vp_ivf.proofs.laws.reading_is_faithful.Goals as goal

pub returns : goal.returns
returns c = is_faithful
