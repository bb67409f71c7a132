use Rattle.std.proofs.Common.{◌≡◌, ℕ, ◌+◌, ◌*◌, sym, ap, ap₂, ◌∙◌, arith}
use Rattle.vp_search.specs.Sums.{sum_below}
use Rattle.vp_search.specs.Differences.{squared_difference}
use Rattle.vp_search.proofs.SumLemmas.{sum_below-none, sum_below-add}
use Rattle.vp_search.proofs.squared_error.sse.Goals as goal

pub loop-i-init : goal.loop-i-init
loop-i-init c = record {
  value = sym (sum_below-none (squared_difference c.args.a.now c.args.b.now));
  bound = omega arith;
}

pub loop-i-preserved : goal.loop-i-preserved
loop-i-preserved c =
    let i = c.loop-i.i in
    let f : ℕ → ℕ = squared_difference c.args.a.now c.args.b.now in
    let e : 16 * (i + 1) ≡ 16 * i + 16 = omega arith in
    let more : sum_below (16 * (i + 1)) f ≡ sum_below (16 * i) f + sum_below 16 (λ k. f (16 * i + k)) = ap (λ n. sum_below n f) e ∙ sum_below-add (16 * i) 16 f in
    record { value = ap₂ (λ x y. x + y) c.loop-i.invariant.value (c.from-sum.ensures ∙ c.squares16.ensures.value) ∙ sym more; bound = omega arith }
