use Rattle.std.proofs.Common.{◌∙◌, sym, arith}
use Rattle.vp_serve.proofs.LoopTurnLemmas.{goes_none, goes_more, goes_to_the_last, ends_with}
use Rattle.vp_serve.proofs.main_loop.serve.Goals as goal

pub loop-turn-init : goal.loop-turn-init
loop-turn-init g c = goes_none c.args.names.now c.new-schedule.result c.args.server.now (g.T.Transport.log c.args.transport.now) c.new-schedule.ensures

pub loop-turn-preserved : goal.loop-turn-preserved
loop-turn-preserved g c =
    let log = g.T.Transport.log in
    let last = c.serve_turn.new in
    goes_more c.args.names.now c.loop-turn._turn c.loop-turn.schedule last.schedule c.args.server.now c.loop-turn.server last.server (log c.args.transport.now) (log c.loop-turn.transport) (log last.transport)
    (g.T.Transport.readiness last.transport) c.loop-turn.invariant c.serve_turn.ensures.takes c.serve_turn.ensures.scheduled c.serve_turn.ensures.timely (sym c.is_over.ensures ∙ c.if-is_over.false)

pub returns-clause-continues : goal.returns-clause-continues
returns-clause-continues g c = c.loop-turn.invariant.far.does

pub returns-clause-turns : goal.returns-clause-turns
returns-clause-turns g c =
    let log = g.T.Transport.log in
    goes_to_the_last c.args.names.now c.loop-turn._turn c.loop-turn.schedule c.args.server.now c.loop-turn.server (log c.args.transport.now) (log c.loop-turn.transport) c.loop-turn.invariant
    (let end = c.loop-turn.auto._turn-end in let test = c.loop-turn-test.false in omega arith)

pub returns-then-is_over-clause-turns : goal.returns-then-is_over-clause-turns
returns-then-is_over-clause-turns g c =
    let log = g.T.Transport.log in
    let last = c.serve_turn.new in
    ends_with c.args.names.now c.loop-turn._turn c.loop-turn.schedule last.schedule c.args.server.now c.loop-turn.server last.server (log c.args.transport.now) (log c.loop-turn.transport) (log last.transport)
    (g.T.Transport.readiness last.transport) c.loop-turn.invariant c.serve_turn.ensures.takes c.serve_turn.ensures.scheduled c.serve_turn.ensures.timely (sym c.is_over.ensures ∙ c.if-is_over.true)

pub returns-then-is_over-clause-continues : goal.returns-then-is_over-clause-continues
returns-then-is_over-clause-continues g c = (returns-then-is_over-clause-turns g c).does
