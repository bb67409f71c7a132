use Rattle.std.proofs.Common.{◌∷◌, [], ◌≡◌, ◌<◌, ◌≤◌, ◌||◌, ◌∙◌, ℕ, Bool, true, false, leb, ap, subst, arith}
use Rattle.std.proofs.lemmas.Bool.Decides.{nat_tests}
use Rattle.std.specs.List.{list_any}
use Rattle.vp_serve.specs.declared.schedule.Schedule.{Schedule}
use Rattle.vp_serve.specs.declared.options.ServeOptions.{ServeOptions}
use Rattle.vp_serve.specs.Schedule.{IsPolled}
use Rattle.vp_serve.specs.Transfer.{Logs, Waits}
use Rattle.vp_serve.specs.Turns.{is_due}
use Rattle.vp_serve.proofs.LoopTurnLemmas.{takes}
use Rattle.vp_serve.proofs.Ready.{no_readier_on}
use Rattle.vp_serve.proofs.Timeouts.{leaves, scheduled}
use Rattle.vp_serve.proofs.main_loop.serve_turn.Goals as goal

pub returns-clause-counted : goal.returns-clause-counted
returns-clause-counted g c =
    let h = c.counted_time-now.ensures in
    record { forward = h.forward; most = h.most; counts = h.counts; long = h.long }

early : (clock due : ℕ) → clock < due → leb due clock ≡ false
early clock due h = grind (arith, nat_tests, h)

reached : (clock due : ℕ) → due ≤ clock → leb due clock ≡ true
reached clock due h = grind (arith, nat_tests, h)

pub returns-clause-takes : goal.returns-clause-takes
returns-clause-takes g c =
    let log = g.T.Transport.log in
    let s = c.args.server.now in
    let last = c.poll_files-grew.new in
    let a = log c.args.transport.now in
    let b = log c.wait-clock.new.self in
    let m = c.turn-moved.result in
    let l = c.close_idle-closed.result in
    let n = c.poll_files-grew.result in
    let due = list_any is_due last.server.connections in
    let r : Schedule = record { time = c.counted_time-now.result; clock = c.wait-clock.result; next_check = c.next_time.result; next_poll = c.next_poll.result; is_busy = c.is_busy-2.result } in
    let test : c.is_busy-2.result ≡ ((m || l) || n) || due = c.is_busy-2.ensures.test ∙ ap (λ (t : Bool). t || due) (c.either-2.ensures ∙ ap (λ (t : Bool). t || n) c.either.ensures) in
    let polled : IsPolled c.options-poll_interval.result.poll_interval n c.args.schedule.now r =
    record { waits = c.next_poll.ensures.waits; stays = c.next_poll.ensures.stays; soon = c.next_poll.ensures.soon; rests = c.next_poll.ensures.rests } in
    let ready = g.T.Transport.readiness in
    takes c.args.names.now c.args.schedule.now r m l n s c.turn-moved.new.server c.close_idle-closed.new.server last.server a b (log c.turn-moved.new.transport) (log c.close_idle-closed.new.transport) (log last.transport)
    (ready c.wait-clock.new.self) (ready c.turn-moved.new.transport) (ready last.transport)
    (λ h. c.is_busy.ensures.awaits (c.is_busy.ensures.test ∙ h))
    (subst (λ (t : Bool). Logs a b (Waits t c.wait-clock.result ∷ [])) c.is_busy.ensures.test c.wait-clock.ensures)
    c.turn-moved.ensures.fair c.close_idle-closed.ensures.closes c.poll_files-grew.ensures.feeds.0 (λ h. c.poll_files-grew.ensures.feeds.1 (early c.wait-clock.result c.args.schedule.now.next_poll h)) (λ h. c.poll_files-grew.ensures.feeds.2 (reached c.wait-clock.result c.args.schedule.now.next_poll h))
    (subst (λ (o : ServeOptions). IsPolled o.poll_interval n c.args.schedule.now r) c.options-poll_interval.ensures polled) (returns-clause-counted g c) c.is_busy-2.ensures.awaits test
    c.close_idle-closed.ensures.still_open c.poll_files-grew.ensures.kept
    (no_readier_on (ready c.turn-moved.new.transport) (ready c.close_idle-closed.new.transport) (ready last.transport) c.close_idle-closed.ensures.no_readier c.poll_files-grew.ensures.no_readier)

pub returns-clause-continues : goal.returns-clause-continues
returns-clause-continues g c = (returns-clause-takes g c).does

pub returns-clause-scheduled : goal.returns-clause-scheduled
returns-clause-scheduled g c h =
    let now = c.counted_time-now.result in
    let r : Schedule = record { time = now; clock = c.wait-clock.result; next_check = c.next_time.result; next_poll = c.next_poll.result; is_busy = c.is_busy-2.result } in
    let fair = c.turn-moved.ensures.fair in
    let fed = c.poll_files-grew.ensures in
    let whole = returns-clause-continues g c in
    let last = c.poll_files-grew.new.server in
    (scheduled c.args.schedule.now r c.args.server.now last c.counted_time-now.ensures.forward
    (leaves now c.args.schedule.now.next_check c.next_time.result c.args.server.now c.turn-moved.new.server c.close_idle-closed.new.server last fair.does.trace fed.feeds.0.does.trace whole.trace
    fair.turn.is_trace fair.turn.at c.close_idle-closed.ensures.still_open c.close_idle-closed.ensures.none fed.feeds.0.does.is_trace fed.kept whole.is_trace c.next_time.ensures.waits c.next_time.ensures.next)
    h).0

pub returns-clause-timely : goal.returns-clause-timely
returns-clause-timely g c h =
    let now = c.counted_time-now.result in
    let r : Schedule = record { time = now; clock = c.wait-clock.result; next_check = c.next_time.result; next_poll = c.next_poll.result; is_busy = c.is_busy-2.result } in
    let fair = c.turn-moved.ensures.fair in
    let fed = c.poll_files-grew.ensures in
    let whole = returns-clause-continues g c in
    let last = c.poll_files-grew.new.server in
    (scheduled c.args.schedule.now r c.args.server.now last c.counted_time-now.ensures.forward
    (leaves now c.args.schedule.now.next_check c.next_time.result c.args.server.now c.turn-moved.new.server c.close_idle-closed.new.server last fair.does.trace fed.feeds.0.does.trace whole.trace
    fair.turn.is_trace fair.turn.at c.close_idle-closed.ensures.still_open c.close_idle-closed.ensures.none fed.feeds.0.does.is_trace fed.kept whole.is_trace c.next_time.ensures.waits c.next_time.ensures.next)
    h).1
