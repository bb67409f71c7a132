use Rattle.vp_hub.proofs.Fed.{all_ended, all_fed, none_fed, none_ended}
use Rattle.vp_hub.proofs.laws.bytes_are_accepted_pieces.Goals as goal

pub returns-clause-runs : goal.returns-clause-runs
returns-clause-runs c s new es os = all_fed s es os new

pub returns-clause-new : goal.returns-clause-new
returns-clause-new c = none_fed

pub returns-clause-ends : goal.returns-clause-ends
returns-clause-ends c s new es os = all_ended s es os new

pub returns-clause-open : goal.returns-clause-open
returns-clause-open c = none_ended
