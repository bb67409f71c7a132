use Rattle.std.proofs.Common.{◌≡◌, ◌∙◌, ℕ, ◌+◌, ◌*◌, ap, arith}
use Rattle.vp_inter.specs.Patches.{patch_pass, weights_of}
use Rattle.vp_inter.proofs.PanelLemmas.{chain_two}
use Rattle.vp_inter.proofs.panel.put_six_rows.Goals as goal

pub returns : goal.returns
returns g c from selects done =
    let e : ℕ = c.args.e in
    let pixel : ℕ → ℕ → ℕ = λ (r x : ℕ). patch_pass (weights_of c.args.weights.now) c.args.patch.now r (from + x) in (
      chain_two 0 e c.args.panel.now.first c.put_lanes.new.pixels c.joined_halves-first.result pixel done.0 c.put_lanes.ensures.here c.put_lanes.ensures.before
          (λ x h. c.joined_halves-first.ensures.front x h ∙ c.horizontal_row.ensures from selects x h ∙ ap (λ (r : ℕ). pixel r x) (let r : 6 * e ≡ 3 * (2 * e) + 0 = omega arith in r))
          (λ x h. c.joined_halves-first.ensures.back x h ∙ c.horizontal_row-2.ensures from selects x h ∙ ap (λ (r : ℕ). pixel r x) (let r : 6 * e + 3 ≡ 3 * (2 * e + 1) + 0 = omega arith in r)),
      chain_two 1 e c.args.panel.now.second c.put_lanes-2.new.pixels c.joined_halves-second.result pixel done.1 c.put_lanes-2.ensures.here c.put_lanes-2.ensures.before
          (λ x h. c.joined_halves-second.ensures.front x h ∙ c.horizontal_row-3.ensures from selects x h ∙ ap (λ (r : ℕ). pixel r x) (let r : 6 * e + 1 ≡ 3 * (2 * e) + 1 = omega arith in r))
          (λ x h. c.joined_halves-second.ensures.back x h ∙ c.horizontal_row-4.ensures from selects x h ∙ ap (λ (r : ℕ). pixel r x) (let r : 6 * e + 4 ≡ 3 * (2 * e + 1) + 1 = omega arith in r)),
      chain_two 2 e c.args.panel.now.third c.put_lanes-3.new.pixels c.joined_halves-third.result pixel done.2 c.put_lanes-3.ensures.here c.put_lanes-3.ensures.before
          (λ x h. c.joined_halves-third.ensures.front x h ∙ c.horizontal_row-5.ensures from selects x h ∙ ap (λ (r : ℕ). pixel r x) (let r : 6 * e + 2 ≡ 3 * (2 * e) + 2 = omega arith in r))
          (λ x h. c.joined_halves-third.ensures.back x h ∙ c.horizontal_row-6.ensures from selects x h ∙ ap (λ (r : ℕ). pixel r x) (let r : 6 * e + 5 ≡ 3 * (2 * e + 1) + 2 = omega arith in r)),
    )
