use Rattle.std.proofs.Common.{◌+◌, ap₂, sym, ◌∙◌, arith}
use Rattle.vp_search.specs.Differences.{squared_difference}
use Rattle.vp_search.proofs.SumLemmas.{sum_below-more}
use Rattle.vp_search.proofs.squared_error.add_rest.Goals as goal

pub loop-i-preserved : goal.loop-i-preserved
loop-i-preserved c =
    let more = sum_below-more c.loop-i.i (squared_difference c.args.a.now c.args.b.now) in
    record { value = ap₂ (λ x y. x + y) c.loop-i.invariant.value c.squared_difference-total.ensures.value ∙ sym more; bound = omega arith }
