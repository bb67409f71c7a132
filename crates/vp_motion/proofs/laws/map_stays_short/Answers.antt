use Rattle.vp_motion.proofs.Sizes.{all-short, map-short}
use Rattle.vp_motion.proofs.laws.map_stays_short.Goals as goal

pub returns : goal.returns
returns c = record { new = all-short; set = map-short }
