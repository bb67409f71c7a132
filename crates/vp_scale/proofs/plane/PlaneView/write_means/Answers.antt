use Rattle.std.proofs.Common.{◌≡◌, ◌≤◌, ◌<◌, ◌∙◌, ◌*◌, get_or, sym, subst, arith}
use Rattle.vp_scale.specs.Scale.{scaled_side}
use Rattle.vp_scale.specs.Means.{mean_at}
use Rattle.vp_scale.proofs.FullLemmas.{mean_at_one}
use Rattle.vp_scale.proofs.LaneLemmas.{groups_inside, drop_further}
use Rattle.vp_scale.proofs.plane.PlaneView.write_means.Goals as goal

pub returns-then-k-eq1-clause-means : goal.returns-then-k-eq1-clause-means
returns-then-k-eq1-clause-means c x h =
    let one : c.args.width ≡ scaled_side 1 c.args.self.now.width = subst (λ k. c.args.width ≡ scaled_side k c.args.self.now.width) c.if-k-eq1.true c.requires.width in
    let row : c.args.y < scaled_side 1 c.args.self.now.height = subst (λ k. c.args.y < scaled_side k c.args.self.now.height) c.if-k-eq1.true c.requires.row in
    let inside : x < c.args.self.now.width = omega (arith, one, h) in
    subst (λ k. get_or c.write_same.new.row x 0 ≡ mean_at k c.args.self.now x c.args.y) (sym c.if-k-eq1.true)
    (c.write_same.ensures.same x inside ∙ sym (mean_at_one c.args.self.now x c.args.y inside (omega (arith, row))))

pub returns-else-k-eq1-clause-behind : goal.returns-else-k-eq1-clause-behind
returns-else-k-eq1-clause-behind c =
    let inside : 8 * c.whole_groups-groups.result ≤ c.args.width =
    subst (λ n. 8 * c.whole_groups-groups.result ≤ n) (sym c.requires.width)
    (groups_inside c.args.k c.whole_groups-groups.result c.args.self.now.width c.requires.factor c.whole_groups-groups.ensures.columns) in
    c.write_rest.ensures.behind ∙ drop_further (8 * c.whole_groups-groups.result) c.args.width c.write_groups.new.row c.args.row.now inside c.write_groups.ensures.behind
