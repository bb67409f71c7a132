use Rattle.std.proofs.Common.{◌∙◌, ℕ, ◌+◌, arith}
use Rattle.vp_inter.specs.Patches.{patch_pass, weights_of}
use Rattle.vp_inter.proofs.PanelLemmas.{chain_more, none}
use Rattle.vp_inter.proofs.panel.fill_panel.Goals as goal

pub returns-then-this-eq13 : goal.returns-then-this-eq13
returns-then-this-eq13 g c from selects =
    let row : ℕ → ℕ → ℕ = λ (r x : ℕ). patch_pass (weights_of c.args.filter.now.weights) c.args.patch.now r (from + x) in
    let twelve = c.put_six_rows-2.ensures from selects (c.put_six_rows.ensures from selects (none c.args.panel.now row)) in
    let last = chain_more 0 4 c.put_six_rows-2.new.panel.first c.put_lanes.new.pixels row twelve.0
    (λ x h. c.put_lanes.ensures.here x h ∙ c.horizontal_row-last.ensures from selects x h) c.put_lanes.ensures.before in
    ((λ _. (last, twelve.1, twelve.2)), (λ long. absurd (omega (arith, c.if-this-eq13.true))))

pub returns : goal.returns
returns g c from selects =
    let row : ℕ → ℕ → ℕ = λ (r x : ℕ). patch_pass (weights_of c.args.filter.now.weights) c.args.patch.now r (from + x) in
    let eighteen = c.put_six_rows-3.ensures from selects (c.put_six_rows-2.ensures from selects (c.put_six_rows.ensures from selects (none c.args.panel.now row))) in (
      (λ short. absurd (c.if-this-eq13.false short)),
      (λ _. (
        chain_more 0 6 c.put_six_rows-3.new.panel.first c.put_lanes-2.new.pixels row eighteen.0 (λ x h. c.put_lanes-2.ensures.here x h ∙ c.horizontal_row-first.ensures from selects x h) c.put_lanes-2.ensures.before,
        chain_more 1 6 c.put_six_rows-3.new.panel.second c.put_lanes-3.new.pixels row eighteen.1 (λ x h. c.put_lanes-3.ensures.here x h ∙ c.horizontal_row-second.ensures from selects x h) c.put_lanes-3.ensures.before,
        chain_more 2 6 c.put_six_rows-3.new.panel.third c.put_lanes-4.new.pixels row eighteen.2 (λ x h. c.put_lanes-4.ensures.here x h ∙ c.horizontal_row-third.ensures from selects x h) c.put_lanes-4.ensures.before,
      )),
    )
