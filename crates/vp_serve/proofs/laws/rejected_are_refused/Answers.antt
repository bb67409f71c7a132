use Rattle.vp_serve.proofs.ActionLemmas.{refused}
use Rattle.vp_serve.proofs.laws.rejected_are_refused.Goals as goal

pub returns : goal.returns
returns c = refused
