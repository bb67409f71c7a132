use Rattle.vp_hub.proofs.PlainLemmas.{no_room, plain_costs, plain_caches, hubs_stay, runs_stay, cost_less}
use Rattle.vp_hub.proofs.laws.plain_hubs_count_as_before.Goals as goal

pub returns-clause-costs : goal.returns-clause-costs
returns-clause-costs c = plain_costs

pub returns-clause-caches : goal.returns-clause-caches
returns-clause-caches c = plain_caches

pub returns-clause-stays : goal.returns-clause-stays
returns-clause-stays c = hubs_stay

pub returns-clause-none : goal.returns-clause-none
returns-clause-none c = no_room

pub returns-clause-runs : goal.returns-clause-runs
returns-clause-runs c = runs_stay

pub returns-clause-less : goal.returns-clause-less
returns-clause-less c = cost_less
