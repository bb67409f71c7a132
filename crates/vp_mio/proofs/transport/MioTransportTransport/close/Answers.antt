use Rattle.vp_mio.proofs.OpenSockets.{unready}
use Rattle.vp_mio.proofs.transport.MioTransportTransport.close.Goals as goal

pub returns-clause-unready : goal.returns-clause-unready
returns-clause-unready g c = unready c.args.number c.close.new.self c.close.ensures.gone
