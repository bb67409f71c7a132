use Rattle.vp_recon.proofs.RowLemmas.{keeps_above}
use Rattle.vp_recon.proofs.laws.rebuilding_keeps_rows_above.Goals as goal

pub returns : goal.returns
returns c = keeps_above
