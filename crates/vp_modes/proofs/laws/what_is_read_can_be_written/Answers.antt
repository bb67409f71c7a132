use Rattle.vp_modes.proofs.SpelledLemmas.{spelled}
use Rattle.vp_modes.proofs.laws.what_is_read_can_be_written.Goals as goal

pub returns : goal.returns
returns c = spelled
