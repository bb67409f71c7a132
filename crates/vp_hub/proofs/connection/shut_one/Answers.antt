use Rattle.vp_hub.specs.Hub.{new_connection_state}
use Rattle.vp_hub.proofs.Places.{shut-some}
use Rattle.vp_hub.proofs.connection.shut_one.Goals as goal

pub returns-clause-step : goal.returns-clause-step
returns-clause-step c = rw (c.remove_all.ensures, c.nothing.ensures) (shut-some c.args.number c.args.connections.now.items c.deref.result.now _ (c.in-Some.ensures.some.state_of_connection (record { number = 0; state_of_connection = new_connection_state })) c.deref.ensures.value)
