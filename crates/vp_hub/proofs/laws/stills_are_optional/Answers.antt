use Rattle.vp_hub.proofs.WithoutStills.{stills_optional}
use Rattle.vp_hub.proofs.laws.stills_are_optional.Goals as goal

pub returns : goal.returns
returns c = stills_optional
