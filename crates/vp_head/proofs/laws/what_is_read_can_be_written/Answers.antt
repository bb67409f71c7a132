use Rattle.vp_head.proofs.SpelledLemmas.{header-spelled}
use Rattle.vp_head.proofs.laws.what_is_read_can_be_written.Goals as goal

pub returns : goal.returns
returns c = header-spelled
