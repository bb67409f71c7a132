use Rattle.std.proofs.Common.{◌≡◌, ◌∙◌, Some, Option, refl, ap, sym, subst}
use Rattle.vp_serve.specs.declared.options.FilePiece.{FilePiece}
use Rattle.vp_serve.specs.ServerLoop.{LoopState, Fed, IsTransition}
use Rattle.vp_serve.proofs.server_loop.ServerLoop.feed.Goals as goal

pub returns : goal.returns
returns c =
    let i = c.self.inside in
    let piece : FilePiece = c.in-Some.piece in
    let hub = c.step-outcome.new.self.state in
    let o = c.step-outcome.result in
    let d : LoopState = record { options = i.options; hub = i.hub.state; connections = i.connections.items; next = i.next; waiting = i.waiting } in
    let e : LoopState = record d { hub = hub; waiting = c.kept_piece.result } in
    let waits : i.waiting ≡ Some piece = sym (sym c.in-Some.is ∙ c.take.ensures.value) in (
      piece,
      subst (λ (x : LoopState). IsTransition x (Fed piece o) e) c.self.view_is
          (waits, c.step-outcome.ensures.step, ap (λ (w : Option FilePiece). record d { hub = hub; waiting = w }) (c.kept_piece.ensures piece.name piece.bytes refl)),
    )
