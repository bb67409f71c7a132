use Rattle.std.proofs.Common.{◌∙◌, ap}
use Rattle.std.specs.Prelude.{slice_index_or}
use Rattle.vp_serve.specs.Connections.{connection_of, new_connection}
use Rattle.vp_serve.specs.ServerLoop.{LoopState}
use Rattle.vp_serve.proofs.OneConnection.{no_some}
use Rattle.vp_serve.proofs.server_loop.ServerLoop.request_line.Goals as goal

pub returns-in-Some-clause-none : goal.returns-in-Some-clause-none
returns-in-Some-clause-none c none =
    let xs = c.deref.result.now in
    absurd (no_some (connection_of c.args.number xs) (slice_index_or xs c.in-Some.place (new_connection 0 0)) (ap (connection_of c.args.number) (c.deref.ensures.value ∙ ap (λ (x : LoopState). x.connections) c.self.view_is) ∙ none)
    (c.in-Some.ensures.some.connection (new_connection 0 0)))
