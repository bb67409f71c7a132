use Rattle.vp_recon.proofs.RowLemmas.{any_read, inter_reads}
use Rattle.vp_recon.proofs.laws.rebuilding_reads_one_row_above.Goals as goal

pub returns-clause-any : goal.returns-clause-any
returns-clause-any c m place p q a b pa qa size xin yin anear bnear same = any_read m place p q a b pa qa size same xin yin anear bnear

pub returns-clause-inter : goal.returns-clause-inter
returns-clause-inter c = inter_reads
