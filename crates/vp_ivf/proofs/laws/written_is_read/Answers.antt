use Rattle.vp_ivf.proofs.Written.{read_back, ends_well}
use Rattle.vp_ivf.proofs.laws.written_is_read.Goals as goal

pub returns : goal.returns
returns c = record { back = read_back; end = ends_well }
