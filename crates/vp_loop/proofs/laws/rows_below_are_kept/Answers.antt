use Rattle.vp_loop.proofs.WindowLemmas.{row_keeps, row_reads}
use Rattle.vp_loop.proofs.laws.rows_below_are_kept.Goals as goal

pub returns-clause-keeps : goal.returns-clause-keeps
returns-clause-keeps c = row_keeps

pub returns-clause-reads : goal.returns-clause-reads
returns-clause-reads c = row_reads
