use Rattle.std.proofs.Common.{◌+◌, ◌||◌, ℕ, Bool, Option, refl, subst, sym}
use Rattle.vp_serve.specs.Turns.{IsNextOpen}
use Rattle.vp_serve.proofs.Turning.{TurnSoFar, so_far_none, so_far_one, so_far_all, attended_still}
use Rattle.vp_serve.proofs.turn.attend_all.Goals as goal

pub loop-number-init : goal.loop-number-init
loop-number-init g c = (so_far_none c.args.now c.args.server.now (g.T.Transport.log c.args.transport.now) (g.T.Transport.readiness c.args.transport.now), λ h. refl)

pub loop-number-preserved : goal.loop-number-preserved
loop-number-preserved g c =
    let log = g.T.Transport.log in
    let from = c.loop-number.from in
    let n = c.in-Some.number in
    let m = c.attend_if_ready-attended.result in
    let own = c.attend_if_ready-attended.ensures.own in
    let d = c.args.server.now in
    let e = c.loop-number.server in
    let f = c.attend_if_ready-attended.new.server in
    let a = log c.args.transport.now in
    let b = log c.loop-number.transport in
    let k = log c.attend_if_ready-attended.new.transport in
    let q = g.T.Transport.readiness c.args.transport.now in
    let s = g.T.Transport.readiness c.attend_if_ready-attended.new.transport in
    let next = subst (λ (o : Option ℕ). IsNextOpen from e.connections o) c.in-Some.is c.next_open.ensures in (
      subst (λ (t : Bool). TurnSoFar (c.from-from.result + 1) c.args.now t d f a k q s) (sym c.either-moved.ensures)
          (subst (λ (j : ℕ). TurnSoFar (j + 1) c.args.now (c.loop-number.moved || m) d f a k q s) (sym c.from-from.ensures) (so_far_one from n c.args.now c.loop-number.moved m d e f a b k q (g.T.Transport.readiness c.loop-number.transport) s c.loop-number.invariant.0 next.0 next.2 own c.attend_if_ready-attended.ensures.due
          c.attend_if_ready-attended.ensures.ready c.attend_if_ready-attended.ensures.only c.attend_if_ready-attended.ensures.no_readier)),
      λ h. attended_still n c.args.now c.loop-number.moved m c.either-moved.result d e f b k c.loop-number.invariant.1 own c.either-moved.ensures h,
    )

pub returns-clause-turn : goal.returns-clause-turn
returns-clause-turn g c =
    let log = g.T.Transport.log in
    let e = c.loop-number.server in
    so_far_all c.loop-number.from c.args.now c.loop-number.moved c.args.server.now e (log c.args.transport.now) (log c.loop-number.transport) (g.T.Transport.readiness c.args.transport.now) (g.T.Transport.readiness c.loop-number.transport) c.loop-number.invariant.0
    (subst (λ (o : Option ℕ). IsNextOpen c.loop-number.from e.connections o) c.in_default.is c.next_open.ensures)
