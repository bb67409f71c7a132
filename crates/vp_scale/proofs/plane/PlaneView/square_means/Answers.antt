use Rattle.std.proofs.Common.{◌≡◌, ◌∙◌, ◌+◌, ◌*◌, get_or, refl, sym, ap, subst, arith}
use Rattle.vp_scale.specs.Means.{square, rounded_mean}
use Rattle.vp_scale.proofs.LaneLemmas.{mean_of_sum}
use Rattle.vp_scale.proofs.plane.PlaneView.square_means.Goals as goal
use Rattle.vp_scale.proofs.plane.PlaneView.square_means.Goals.{in-2, in-4, in_default}

pub returns-clause-value : goal.returns-clause-value
returns-clause-value c j h =
    elim c.match-k.branch [
      | in-2 w ↦
          let is : c.args.k ≡ 2 = w.in-2.is in
          let count : 2 * 2 ≡ 2 * 2 = refl in
          subst (λ k. get_or c.match-k.result j 0 ≡ rounded_mean (square k c.args.self.now (c.args.x + k * j) c.args.y)) (sym is)
          (ap (λ l. get_or l j 0) w.result-is
          ∙ w.rounded_means.ensures.value j h
          ∙ mean_of_sum 2 2 c.args.self.now (c.args.x + 2 * j) c.args.y (get_or w.sums_of_two.result j 0) (w.sums_of_two.ensures.value j h) count)
      | in-4 w ↦
          let is : c.args.k ≡ 4 = w.in-4.is in
          let count : 2 * 8 ≡ 4 * 4 = refl in
          subst (λ k. get_or c.match-k.result j 0 ≡ rounded_mean (square k c.args.self.now (c.args.x + k * j) c.args.y)) (sym is)
          (ap (λ l. get_or l j 0) w.result-is
          ∙ w.rounded_means-in-4.ensures.value j h
          ∙ mean_of_sum 4 8 c.args.self.now (c.args.x + 4 * j) c.args.y (get_or w.sums_of_four.result j 0) (w.sums_of_four.ensures.value j h) count)
      | in_default w ↦
          let is : c.args.k ≡ 8 = omega (arith, c.requires.factor, c.requires.smaller, w.in_default) in
          let count : 2 * 32 ≡ 8 * 8 = refl in
          subst (λ k. get_or c.match-k.result j 0 ≡ rounded_mean (square k c.args.self.now (c.args.x + k * j) c.args.y)) (sym is)
          (ap (λ l. get_or l j 0) w.result-is
          ∙ w.rounded_means-in_default.ensures.value j h
          ∙ mean_of_sum 8 32 c.args.self.now (c.args.x + 8 * j) c.args.y (get_or w.sums_of_eight.result j 0) (w.sums_of_eight.ensures.value j h) count)
    ]
