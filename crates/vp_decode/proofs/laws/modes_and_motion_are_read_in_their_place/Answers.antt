use Rattle.vp_decode.proofs.MapLemmas.{are_said}
use Rattle.vp_decode.proofs.laws.modes_and_motion_are_read_in_their_place.Goals as goal

pub returns : goal.returns
returns c = are_said
