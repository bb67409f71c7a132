use Rattle.vp_ivf.proofs.Determined.{obeys_laws, is_determined}
use Rattle.vp_ivf.proofs.laws.laws_determine_the_reading.Goals as goal

pub returns : goal.returns
returns c = record { obeyed = obeys_laws; determined = is_determined }
