use Rattle.std.proofs.Common.{[]}
use Rattle.vp_hub.proofs.Serving.{costs-closed}
use Rattle.vp_hub.proofs.hub.answer.Goals as goal

pub returns-then-state_of_connection-clause-work : goal.returns-then-state_of_connection-clause-work
returns-then-state_of_connection-clause-work c _ =
    (0, ((c.args.state_of_connection.now, []), costs-closed c.args.streams.now c.args.piece.now (c.args.state_of_connection.now, []) c.args.pictures.now.kept c.if-state_of_connection.true), c.requires.idle)
