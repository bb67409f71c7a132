use Rattle.vp_bool.proofs.EndLemmas.{past_is_bits}
use Rattle.vp_bool.proofs.laws.end_of_partition.Goals as goal

pub returns : goal.returns
returns c = past_is_bits
