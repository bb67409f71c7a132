use Rattle.std.proofs.Common.{◌≡◌, ℕ, ap, ◌+◌, ◌*◌, ◌∙◌, get_or, arith}
use Rattle.vp_search.specs.Bounds.{row_sum}
use Rattle.vp_search.proofs.CoarseLemmas.{coarse_more}
use Rattle.vp_search.proofs.SumLanes.{eight_more}
use Rattle.vp_search.proofs.sums.put_squares.Goals as goal

pub loop-g-preserved : goal.loop-g-preserved
loop-g-preserved c =
    let inv = c.loop-g.invariant in
    record {
      here = eight_more (row_sum c.args.columns.now) (λ x. get_or c.loop-g.sums (c.args.at + x) 0) (λ x. get_or c.store_sums.new.s (c.args.at + x) 0) c.loop-g.g inv.here
          (λ x h. c.store_sums.ensures.before (c.args.at + x) (omega arith))
          (λ j h. (let e : c.args.at + (8 * c.loop-g.g + j) ≡ c.args.at + 8 * c.loop-g.g + j = omega arith in ap (λ (k : ℕ). get_or c.store_sums.new.s k 0) e)
          ∙ c.store_sums.ensures.here j h ∙ c.row_sums-squares.ensures j h);
      before = λ k h. c.store_sums.ensures.before k (omega arith) ∙ inv.before k h;
      coarse = λ some n all. coarse_more c.loop-g.sums c.store_sums.new.s c.loop-g.coarse c.put_coarse.new.coarse (λ j. get_or c.row_sums-squares.result j 0) (c.args.at + 8 * c.loop-g.g)
          c.store_sums.ensures.here c.store_sums.ensures.before c.store_sums.ensures.after
          (λ j h. c.put_coarse.ensures.here (omega arith) j h) c.put_coarse.ensures.before c.put_coarse.ensures.after n (inv.coarse some n all);
      after = λ k h. c.store_sums.ensures.after k (omega arith) ∙ inv.after k (omega arith);
    }
