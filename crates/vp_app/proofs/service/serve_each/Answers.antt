use Rattle.std.proofs.Common.{◌≡◌, ◌∙◌, ◌+◌, ◌++◌, [], ◌∷◌, false, true, length, ap, subst, arith, rules}
use Rattle.std.specs.Prelude.{is_ok}
use Rattle.std.specs.List.{list_all}
use Rattle.std.proofs.lemmas.List.{length_push}
use Rattle.vp_app.specs.Serving.{IsServed}
use Rattle.vp_app.proofs.ServingLemmas.{served_more, well_more, well_no_more}
use Rattle.vp_app.proofs.service.serve_each.Goals as goal
use Rattle.vp_app.proofs.service.serve_each.Goals.{in-Err, in_default}

pub loop-number-preserved : goal.loop-number-preserved
loop-number-preserved g c =
    let inv = c.loop-number.invariant in
    let s = c.args.hub.now.state in
    let o = c.serve_next.result in
    let place : c.loop-number.number ≡ 0 + length inv.0 = omega (arith, inv.1) in
    let one = subst (λ n. IsServed n s o) place (subst (λ x. IsServed c.loop-number.number x o) inv.4 c.serve_next.ensures.served) in
    let well : c.match-serve_next.well ≡ list_all is_ok (inv.0 ++ o ∷ []) = elim c.match-serve_next.branch [
      | in-Err w ↦ let bad : is_ok o ≡ false = search rules in w.well-is ∙ well_no_more inv.0 o bad
      | in_default w ↦ let good : is_ok o ≡ true = search rules in w.well-is ∙ (inv.3 ∙ well_more inv.0 o good)
    ] in (
      inv.0 ++ o ∷ [],
      length_push inv.0 o ∙ ap (λ n. n + 1) inv.1,
      served_more inv.0 0 s o inv.2 one,
      well,
      c.serve_next.ensures.stays ∙ inv.4,
    )

pub returns-clause-served : goal.returns-clause-served
returns-clause-served g c =
    let inv = c.loop-number.invariant in record {
      outcomes = inv.0;
      count = omega (arith, inv.1, c.loop-number.auto.number-end, c.loop-number-test.false);
      served = inv.2;
      well_is = inv.3;
    }
