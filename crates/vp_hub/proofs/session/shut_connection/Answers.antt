use Rattle.vp_hub.proofs.session.shut_connection.Goals as goal

pub returns : goal.returns
returns c = (c.step.result, c.step.ensures.step, c.step.ensures.worked)
