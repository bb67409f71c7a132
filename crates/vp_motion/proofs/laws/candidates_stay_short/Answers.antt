use Rattle.vp_motion.proofs.Sizes.{candidates-short, new-short}
use Rattle.vp_motion.proofs.laws.candidates_stay_short.Goals as goal

pub returns : goal.returns
returns c = record {
  best = λ n g p r b h. (candidates-short n g p r b h).best;
  nearest = λ n g p r b h. (candidates-short n g p r b h).nearest;
  near = λ n g p r b h. (candidates-short n g p r b h).near;
  new = λ g p r b v h k. new-short v _ k (candidates-short 511 g p r b h).best;
}
