use Rattle.vp_head.proofs.HeaderLemmas.{header-resets}
use Rattle.vp_head.proofs.laws.key_header_resets.Goals as goal

pub returns : goal.returns
returns c = header-resets
