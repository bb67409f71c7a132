use Rattle.vp_ivf.proofs.Within.{counts_packets, cuts_what_fits, shows_faults}
use Rattle.vp_ivf.proofs.laws.reading_keeps_to_limits.Goals as goal

pub returns : goal.returns
returns c = record { counts = counts_packets; fits = cuts_what_fits; faults = shows_faults }
