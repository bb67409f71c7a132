use Rattle.vp_hub.proofs.Turning.{histories_are_cut}
use Rattle.vp_hub.proofs.laws.histories_are_cut.Goals as goal

pub returns : goal.returns
returns c = histories_are_cut
