use Rattle.vp_hub.proofs.Isolation.{run_more}
use Rattle.vp_hub.proofs.CacheLemmas.{step_partial}
use Rattle.vp_hub.proofs.Serving.{worked_more}
use Rattle.vp_hub.proofs.hub.Hub.step.Goals as goal

pub returns-clause-partial : goal.returns-clause-partial
returns-clause-partial c k = step_partial _ _ _ _ c.turn.ensures.step k

pub returns-clause-stands : goal.returns-clause-stands
returns-clause-stands c s es os run = run_more s es os _ _ _ _ run c.turn.ensures.step

pub returns-clause-stands_worked : goal.returns-clause-stands_worked
returns-clause-stands_worked c s es os run = worked_more s es os _ _ _ _ run c.turn.ensures.step c.turn.ensures.worked
