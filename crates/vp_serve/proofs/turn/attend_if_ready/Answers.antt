use Rattle.std.proofs.Common.{rules, ◌∙◌, sym}
use Rattle.vp_serve.proofs.Ready.{ready_answer, ready_only}
use Rattle.vp_serve.proofs.turn.attend_if_ready.Goals as goal

pub returns-then-not-is_ready-clause-ready : goal.returns-then-not-is_ready-clause-ready
returns-then-not-is_ready-clause-ready g c is =
    sym c.if-not-is_ready.true
    ∙ ready_answer c.args.number (g.T.Transport.readiness c.args.transport.now) c.args.server.now c.next_action.result c.is_ready.result c.next_action.ensures c.is_ready.ensures.ready is

pub returns-clause-only : goal.returns-clause-only
returns-clause-only g c moved = search (rules, ready_only)
