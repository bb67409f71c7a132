use Rattle.std.proofs.Common.{Bool, sym, subst}
use Rattle.vp_serve.specs.Turns.{TakesTurn}
use Rattle.vp_serve.specs.Parts.{IsArrival}
use Rattle.vp_serve.proofs.Turning.{after_arrivals, turn_still}
use Rattle.vp_serve.proofs.turn.turn.Goals as goal

pub returns-clause-fair : goal.returns-clause-fair
returns-clause-fair g c =
    let log = g.T.Transport.log in
    let ready = g.T.Transport.readiness in
    let first = c.accept_all-accepted in
    let last = c.attend_all-moved in
    subst (λ (t : Bool). TakesTurn c.args.now t c.args.server.now last.new.server (log c.args.transport.now) (log last.new.transport) (ready c.args.transport.now) (ready last.new.transport)) (sym c.either.ensures)
    (after_arrivals c.args.now first.result last.result c.args.server.now first.new.server last.new.server (log c.args.transport.now) (log first.new.transport) (log last.new.transport) (ready c.args.transport.now) (ready first.new.transport) (ready last.new.transport) first.ensures.performs first.ensures.no_readier last.ensures.turn)

pub returns-clause-continues : goal.returns-clause-continues
returns-clause-continues g c = (returns-clause-fair g c).does

pub returns-clause-still : goal.returns-clause-still
returns-clause-still g c h =
    let log = g.T.Transport.log in
    let first = c.accept_all-accepted in
    let last = c.attend_all-moved in
    turn_still (IsArrival c.args.now) first.result last.result c.either.result c.args.server.now first.new.server last.new.server (log c.args.transport.now) (log first.new.transport) first.ensures.performs last.ensures.still c.either.ensures h
