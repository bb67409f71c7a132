use Rattle.vp_loop.proofs.WindowLemmas.{row_final}
use Rattle.vp_loop.proofs.laws.rows_above_are_final.Goals as goal

pub returns : goal.returns
returns c = row_final
