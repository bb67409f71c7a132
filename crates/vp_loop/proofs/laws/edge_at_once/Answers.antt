use Rattle.vp_loop.proofs.LawLemmas.{edges_at_once}
use Rattle.vp_loop.proofs.laws.edge_at_once.Goals as goal

pub returns : goal.returns
returns c = edges_at_once
