use Rattle.std.proofs.Common.{◌≡◌, ℕ, ℤ, ◌+◌, List, subst, sym, inl, inr}
use Rattle.vp_inter.specs.Filter.{filter_six}
use Rattle.vp_inter.specs.Patches.{patch_pixel}
use Rattle.vp_inter.specs.Written.{IsBlockWritten}
use Rattle.vp_inter.proofs.panel.vertical_by_panels.Goals as goal

pub returns-then-this-eq8 : goal.returns-then-this-eq8
returns-then-this-eq8 g c =
    let pixel : ℕ → ℕ → ℕ = patch_pixel c.args.patch.now in
    let is = λ (n : ℕ) (w : List ℤ). IsBlockWritten n n c.args.pixels.now c.vertical_from_panel.new.pixels c.args.at c.args.stride (λ r x. filter_six w (λ k. pixel (r + k) x)) in
    subst (λ (n : ℕ). is n c.args.weights.six.now) (sym c.if-this-eq8.true) (subst (is 8) c.panel_filter-filter.ensures (c.vertical_from_panel.ensures pixel c.copy_panel.ensures))

pub returns : goal.returns
returns g c =
    let pixel : ℕ → ℕ → ℕ = patch_pixel c.args.patch.now in
    let is = λ (n : ℕ) (w : List ℤ). IsBlockWritten n n c.args.pixels.now c.vertical_from_panels.new.pixels c.args.at c.args.stride (λ r x. filter_six w (λ k. pixel (r + k) x)) in
    let sixteen : g.row.N ≡ 16 = elim c.requires.size [ inl eight ↦ absurd (c.if-this-eq8.false eight) | inr sixteen ↦ sixteen ] in
    subst (λ (n : ℕ). is n c.args.weights.six.now) (sym sixteen) (subst (is 16) c.panel_filter-filter.ensures (c.vertical_from_panels.ensures pixel c.copy_panels.ensures))
