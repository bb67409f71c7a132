use Rattle.std.proofs.Common.{take, subst, sym}
use Rattle.std.specs.Prelude.{slice_set}
use Rattle.vp_serve.specs.declared.connection.NextAction.TheVariants.{Send}
use Rattle.vp_serve.specs.Connections.{unsent_of}
use Rattle.vp_serve.specs.ServerLoop.{LoopState, Sent, IsTransition}
use Rattle.vp_serve.proofs.LoopLemmas.{IsDue, sends}
use Rattle.vp_serve.proofs.server_loop.ServerLoop.sent.Goals as goal

pub returns : goal.returns
returns c =
    let i = c.self.inside in
    let n = c.args.number in
    let d : LoopState = record { options = i.options; hub = i.hub.state; connections = i.connections.items; next = i.next; waiting = i.waiting } in
    let e : LoopState = record d { connections = slice_set d.connections c.in-Some.place c.sent.new.self } in
    let due : IsDue n Send d = subst (IsDue n Send) (sym c.self.view_is) c.requires.sends in
    subst (λ (x : LoopState). IsTransition x (Sent n c.args.now (take c.args.count (unsent_of n x.connections))) e) c.self.view_is
    (sends n c.args.count c.args.now c.in-Some.place d c.deref.result.now c.index_mut.result.now c.sent.new.self c.deref.ensures.value c.in-Some.ensures.some c.index_mut.ensures.value due c.sent.ensures)
