use Rattle.std.proofs.Common.{refl}
use Rattle.vp_hub.specs.Hub.{new_connection_state}
use Rattle.vp_hub.proofs.connection.open_one.Goals as goal

pub returns-in-Some-clause-step : goal.returns-in-Some-clause-step
returns-in-Some-clause-step c _ = rw (← c.deref.ensures.value, c.in-Some.ensures.some.state_of_connection (record { number = 0; state_of_connection = new_connection_state })) refl
