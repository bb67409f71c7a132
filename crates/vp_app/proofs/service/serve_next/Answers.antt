use Rattle.std.proofs.Common.{None, refl, inl, inr, subst}
use Rattle.vp_base.specs.Counted.{counted_failures, HasFailed}
use Rattle.vp_hub.specs.Sessions.{IsTurnedAway, IsSession}
use Rattle.vp_app.proofs.service.serve_next.Goals as goal

pub returns-clause-served : goal.returns-clause-served
returns-clause-served c =
    let old = c.args.hub.now in
    let new = c.serve_one-served.new.hub in
    let o = c.serve_one-served.result in
    let stays = c.serve_one-served.ensures.stays in
    let failures = counted_failures c.serve_one-served.new.writer in
    elim c.serve_one-served.ensures.served [
      | inl x ↦ inr (inl (subst (λ s. IsTurnedAway c.args.number old.state s o) stays x.0))
      | inr (read, consumed, visit) ↦ inr (inr (
        old,
        new,
        refl,
        stays,
        (read, failures, subst (λ n. IsSession c.args.number old new o read None None None (HasFailed n failures)) c.new-writer.ensures.failures visit),
      ))
    ]
