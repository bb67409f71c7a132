use Rattle.vp_search.proofs.RefinedLemmas.{refined_is_one}
use Rattle.vp_search.proofs.laws.refined_vector_is_one.Goals as goal

pub returns : goal.returns
returns c = refined_is_one
