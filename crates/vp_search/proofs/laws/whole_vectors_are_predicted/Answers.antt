use Rattle.vp_search.proofs.WindowLemmas.{quarter_cost-whole}
use Rattle.vp_search.proofs.laws.whole_vectors_are_predicted.Goals as goal

pub returns : goal.returns
returns c f p place v bytes = quarter_cost-whole f p place v (λ r k rin kin. bytes _ _)
