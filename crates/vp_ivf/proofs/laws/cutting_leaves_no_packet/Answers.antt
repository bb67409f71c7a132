use Rattle.vp_ivf.proofs.Few.{read-settled}
use Rattle.vp_ivf.proofs.Short.{cuts_all}
use Rattle.vp_ivf.proofs.laws.cutting_leaves_no_packet.Goals as goal

pub returns : goal.returns
returns c = record { short = cuts_all; settled = read-settled }
