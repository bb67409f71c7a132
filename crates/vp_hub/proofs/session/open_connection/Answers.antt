use Rattle.vp_hub.proofs.session.open_connection.Goals as goal

pub returns-in-Ok-clause-opened : goal.returns-in-Ok-clause-opened
returns-in-Ok-clause-opened c = (c.in-Ok.field-0, c.in-Ok.ensures.step, c.in-Ok.ensures.worked)
