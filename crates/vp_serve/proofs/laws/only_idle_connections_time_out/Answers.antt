use Rattle.vp_serve.proofs.TurnLaws.{idle_alone}
use Rattle.vp_serve.proofs.laws.only_idle_connections_time_out.Goals as goal

pub returns : goal.returns
returns c = idle_alone
