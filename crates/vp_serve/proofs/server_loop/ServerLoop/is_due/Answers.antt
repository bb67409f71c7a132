use Rattle.std.proofs.Common.{◌∙◌, ap}
use Rattle.std.specs.List.{list_any}
use Rattle.vp_serve.specs.ServerLoop.{LoopState}
use Rattle.vp_serve.specs.Turns.{is_due}
use Rattle.vp_serve.proofs.Cursor.{awaits_peers}
use Rattle.vp_serve.proofs.server_loop.ServerLoop.is_due.Goals as goal

pub returns-clause-test : goal.returns-clause-test
returns-clause-test c = c.is_one_due.ensures ∙ ap (list_any is_due) (c.deref.ensures.value ∙ ap (λ (x : LoopState). x.connections) c.self.view_is)

pub returns-clause-all : goal.returns-clause-all
returns-clause-all c none =
    awaits_peers c.args.self.now c.deref.result.now c.is_one_due.result (c.deref.ensures.value ∙ ap (λ (x : LoopState). x.connections) c.self.view_is) c.is_one_due.ensures none
