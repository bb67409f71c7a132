use Rattle.std.proofs.Common.{◌≡◌, ◌∙◌, ap, subst}
use Rattle.std.specs.Prelude.{IfOk}
use Rattle.vp_base.specs.Counted.{counted_remaining}
use Rattle.vp_serve.specs.ServerLoop.{initial}
use Rattle.vp_app.specs.Many.{WorksLoop, followed_names, options_of}
use Rattle.vp_app.proofs.RunLemmas.{runs_many}
use Rattle.vp_app.proofs.many.serve_many.Goals as goal

pub returns-clause-served : goal.returns-clause-served
returns-clause-served g c =
    let many = c.args.many.now in
    let fed = c.feed_or_follow.new.hub.state in
    let is : c.new-server.result ≡ initial (options_of many) fed
    = c.new-server.ensures ∙ ap (λ o. initial o fed) c.options_of.ensures in
    runs_many many c.run_loop.result c.in_ok-hub.hub fed
    (counted_remaining g.R.Read.remaining c.args.input.now) (counted_remaining g.R.Read.remaining c.feed_or_follow.new.input)
    c.in_ok-hub.ensures.hub c.in_ok-files.ensures
    (subst (λ d. IfOk c.run_loop.result (WorksLoop (followed_names many) d)) is c.run_loop.ensures.works)
