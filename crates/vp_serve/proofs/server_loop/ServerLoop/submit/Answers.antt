use Rattle.std.proofs.Common.{◌≡◌, sym, drop, subst, length}
use Rattle.std.specs.Prelude.{slice_set}
use Rattle.vp_serve.specs.declared.connection.NextAction.TheVariants.{Submit}
use Rattle.vp_serve.specs.Connection.{Connection}
use Rattle.vp_serve.specs.Connections.{after_outcome}
use Rattle.vp_serve.specs.ServerLoop.{LoopState, Submitted, IsTransition}
use Rattle.vp_serve.proofs.LoopLemmas.{IsDue, submits}
use Rattle.vp_serve.proofs.server_loop.ServerLoop.submit.Goals as goal

pub returns-clause-ok : goal.returns-clause-ok
returns-clause-ok c =
    let i = c.self.inside in
    let d : LoopState = record { options = i.options; hub = i.hub.state; connections = i.connections.items; next = i.next; waiting = i.waiting } in
    let n = c.args.number in
    let line = c.in_ok-line.line in
    let o = c.step-outcome.result in
    let t : Connection = c.index_mut-connection.result.now in
    let hub = c.step-outcome.new.self.state in
    let due : IsDue n Submit d = subst (IsDue n Submit) (sym c.self.view_is) c.requires in
    let change : c.submitted.new.self ≡ after_outcome o (drop (length line) t.unsubmitted) c.args.now t =
    subst (λ (u : Connection). c.submitted.new.self ≡ after_outcome o (drop (length line) u.unsubmitted) c.args.now u) c.keep_line.ensures
    (subst (λ k. c.submitted.new.self ≡ after_outcome o (drop k c.keep_line.new.connection.unsubmitted) c.args.now c.keep_line.new.connection) c.len-count.ensures c.submitted.ensures) in (
      line,
      o,
      subst (λ (x : LoopState). IsTransition x (Submitted n c.args.now line o) (record d { hub = hub; connections = slice_set d.connections c.in-Some.place c.submitted.new.self })) c.self.view_is
          (submits n c.args.now c.in-Some.place line o d hub c.deref.result.now t c.submitted.new.self c.deref.ensures.value c.in-Some.ensures.some c.index_mut-connection.ensures.value due c.in_ok-line.ensures.0 c.in_ok-line.ensures.1 c.in_ok-line.ensures.2 c.step-outcome.ensures.step change),
    )
