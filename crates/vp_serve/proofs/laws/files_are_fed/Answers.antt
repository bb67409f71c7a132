use Rattle.vp_serve.proofs.FeedingLemmas.{fed}
use Rattle.vp_serve.proofs.laws.files_are_fed.Goals as goal

pub returns : goal.returns
returns c = fed
