use Rattle.std.proofs.Common.{◌∙◌, Err, inr, subst, sym}
use Rattle.vp_hub.specs.Hub.{IsStep}
use Rattle.vp_app.proofs.FeedingLemmas.{not_memory}
use Rattle.vp_app.proofs.service.feed_or_end.Goals as goal

pub returns-clause-fed : goal.returns-clause-fed
returns-clause-fed c = λ piece left is.
    let fault = c.in-Err.fault in
    let mid = c.step.new.hub.state in
    let told = c.step-2.ensures.either in
    inr (
      fault,
      mid,
      told.0,
      not_memory fault (sym c.is_memory.ensures ∙ c.if-is_memory.false),
      subst (λ e. IsStep c.args.hub.now.state e (Err fault) mid) is c.in-Err.ensures.err,
      told.1,
    )
