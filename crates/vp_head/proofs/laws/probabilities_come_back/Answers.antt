use Rattle.vp_head.proofs.HeaderLemmas.{header-comes_back, header-comes_back_key}
use Rattle.vp_head.proofs.laws.probabilities_come_back.Goals as goal

pub returns : goal.returns
returns c = record { inter = header-comes_back; key = header-comes_back_key }
