use Rattle.std.proofs.Common.{◌≡◌, ◌≤◌, ◌∙◌, ℕ, ◌+◌, ◌*◌, get_or, drop, length, sym, ap, subst, arith}
use Rattle.vp_scale.specs.Means.{square, rounded_mean, mean_at}
use Rattle.vp_scale.proofs.LaneLemmas.{group_put, group_behind}
use Rattle.vp_scale.proofs.plane.PlaneView.write_groups.Goals as goal

pub loop-g-preserved : goal.loop-g-preserved
unfolding mean_at
loop-g-preserved c =
    let g : ℕ = c.loop-g.g in
    let k : ℕ = c.args.k in
    let v = c.square_means.result in
    let put = c.store8.ensures in
    let next : 8 * g + 8 ≤ 8 * c.args.groups = omega (arith, c.loop-g-test.true) in
    let room : 8 * g + 8 ≤ length c.loop-g.row = omega (arith, next, c.loop-g.auto.row, c.requires.room) in
    record {
      means = λ x h. subst (λ l. get_or l x 0 ≡ mean_at k c.args.self.now x c.args.y) (sym put)
          (group_put (λ x n. n ≡ mean_at k c.args.self.now x c.args.y) c.loop-g.row v g c.square_means.ensures.long room c.loop-g.invariant.means
          (λ j hj. c.square_means.ensures.value j hj
          ∙ (let e : 8 * g * k + k * j ≡ (8 * g + j) * k = omega arith in ap (λ z. rounded_mean (square k c.args.self.now z (c.args.y * k))) e)) x h);
      behind = ap (drop (8 * c.args.groups)) put ∙ group_behind c.loop-g.row v (8 * g) (8 * c.args.groups) c.square_means.ensures.long next (sym (ap length put) ∙ c.store8.auto.s) ∙ c.loop-g.invariant.behind;
    }
