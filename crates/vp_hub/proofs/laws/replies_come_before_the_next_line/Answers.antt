use Rattle.vp_hub.proofs.FirstLine.{lines_end_once}
use Rattle.vp_hub.proofs.InTurn.{all_but_the_last}
use Rattle.vp_hub.proofs.laws.replies_come_before_the_next_line.Goals as goal

pub returns-clause-written : goal.returns-clause-written
returns-clause-written c = all_but_the_last

pub returns-clause-lines : goal.returns-clause-lines
returns-clause-lines c = lines_end_once
