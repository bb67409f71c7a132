use Rattle.std.proofs.Common.{sym}
use Rattle.vp_serve.proofs.Cursor.{next_open_more}
use Rattle.vp_serve.proofs.connection.next_open.Goals as goal

pub loop-connection-preserved : goal.loop-connection-preserved
loop-connection-preserved c =
    next_open_more c.args.from c.loop-connection.connection-index c.args.connections.now c.connection-item.result c.loop-connection.next c.nearer-next.result c.connection-item.is c.loop-connection-test.true c.loop-connection.invariant
    (λ xs h x is. c.nearer-next.ensures xs h x is) (sym c.number.ensures)
