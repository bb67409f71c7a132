use Rattle.std.proofs.Common.{◌≡◌, ℕ, ◌+◌, ◌*◌, get_or, ap, ◌∙◌, arith}
use Rattle.vp_search.specs.Bounds.{column_sum}
use Rattle.vp_search.proofs.SumLanes.{eight_more}
use Rattle.vp_search.proofs.sums.put_columns.Goals as goal

pub loop-g-preserved : goal.loop-g-preserved
loop-g-preserved c =
    let at : ℕ = c.args.at in let g : ℕ = c.loop-g.g in
    eight_more (λ x. column_sum c.args.pixels.now (at + x) c.args.step) (λ x. get_or c.loop-g.columns x 0) (λ x. get_or c.store_sums.new.s x 0) g c.loop-g.invariant c.store_sums.ensures.before
    (λ j h. c.store_sums.ensures.here j h ∙ c.column_sums.ensures j h
    ∙ (let e : at + 8 * g + j ≡ at + (8 * g + j) = omega arith in ap (λ (k : ℕ). column_sum c.args.pixels.now k c.args.step) e))
