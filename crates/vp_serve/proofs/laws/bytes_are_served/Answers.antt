use Rattle.vp_serve.proofs.Served.{served}
use Rattle.vp_serve.proofs.laws.bytes_are_served.Goals as goal

pub returns : goal.returns
returns c = served
