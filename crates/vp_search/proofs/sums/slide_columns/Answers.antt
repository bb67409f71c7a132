use Rattle.std.proofs.Common.{◌≡◌, ℕ, ◌+◌, ◌-◌, ◌*◌, get_or, ap, ◌∙◌, arith}
use Rattle.vp_search.specs.Bounds.{column_sum}
use Rattle.vp_search.proofs.SumLanes.{eight_more, slid}
use Rattle.vp_search.proofs.sums.slide_columns.Goals as goal

pub loop-g-preserved : goal.loop-g-preserved
loop-g-preserved c =
    let at : ℕ = c.args.at in let step : ℕ = c.args.step in let g : ℕ = c.loop-g.g in
    let inv = c.loop-g.invariant in
    record {
      done = eight_more (λ x. column_sum c.args.pixels.now (at + step + x) step) (λ x. get_or c.loop-g.columns x 0) (λ x. get_or c.store_sums.new.s x 0) g inv.done c.store_sums.ensures.before
          (λ j h.
          let e : at + (8 * g + j) + step ≡ at + step + (8 * g + j) = omega arith in
          let a : at + 8 * g + j ≡ at + (8 * g + j) = omega arith in
          let b : at + 8 * step + 8 * g + j ≡ at + (8 * g + j) + 8 * step = omega arith in
          c.store_sums.ensures.here j h
          ∙ slid c.args.pixels.now (at + (8 * g + j)) step (get_or c.load_sums-sums.result j 0) (get_or c.load_bytes-above.result j 0) (get_or c.load_bytes-below.result j 0) (get_or c.less.result j 0)
          (λ k. (c.type_inv.pixels k).fits)
          (c.load_sums-sums.ensures j h ∙ inv.left (8 * g + j) (omega arith) ∙ c.requires.known (8 * g + j) (omega arith))
          (c.load_bytes-above.ensures j h ∙ ap (λ (k : ℕ). get_or c.args.pixels.now k 0) a)
          (c.load_bytes-below.ensures j h ∙ ap (λ (k : ℕ). get_or c.args.pixels.now k 0) b)
          (c.less.ensures j h ∙ ap (λ (k : ℕ). k - get_or c.load_bytes-above.result j 0) (c.plus.ensures j h))
          ∙ ap (λ (k : ℕ). column_sum c.args.pixels.now k step) e);
      left = λ x h. c.store_sums.ensures.after x (omega arith) ∙ inv.left x (omega arith);
    }
