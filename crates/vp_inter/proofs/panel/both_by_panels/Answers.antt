use Rattle.std.proofs.Common.{◌≡◌, ℕ, ℤ, ◌+◌, List, refl, subst, sym, inl, inr}
use Rattle.vp_inter.specs.Filter.{filter_six}
use Rattle.vp_inter.specs.Patches.{patch_pass}
use Rattle.vp_inter.specs.Panels.{IsPanel, IsShortPanel}
use Rattle.vp_inter.specs.Written.{HasRoomForBlock, IsBlockWritten}
use Rattle.vp_inter.proofs.PanelLemmas.{first_columns, first_columns_of_short}
use Rattle.vp_inter.proofs.panel.both_by_panels.Goals as goal

pub returns-then-this-eq8 : goal.returns-then-this-eq8
returns-then-this-eq8 g c =
    let pixel : List ℤ → ℕ → ℕ → ℕ = λ (w : List ℤ). patch_pass w c.args.patch.now in
    let own = pixel c.args.horizontal.six.now in
    let is = λ (n : ℕ) (w : List ℤ). IsBlockWritten n n c.args.pixels.now c.vertical_from_panel.new.pixels c.args.at c.args.stride (λ r x. filter_six w (λ k. own (r + k) x)) in
    let rows = subst (λ (w : List ℤ). IsShortPanel c.horizontal_to_panel.new.panel (λ i j. pixel w i (0 + j))) c.horizontal_filter.ensures.weights ((c.horizontal_to_panel.ensures 0 c.horizontal_filter.ensures.selects).0 refl) in
    subst (λ (n : ℕ). is n c.args.vertical.six.now) (sym c.if-this-eq8.true)
    (subst (is 8) c.panel_filter-filter.ensures (c.vertical_from_panel.ensures own (first_columns_of_short _ own rows)))

pub vertical_from_panels-requires : goal.vertical_from_panels-requires
vertical_from_panels-requires g c =
    let sixteen : g.row.N ≡ 16 = elim c.requires.size [ inl eight ↦ absurd (c.if-this-eq8.false eight) | inr sixteen ↦ sixteen ] in
    subst (λ (n : ℕ). HasRoomForBlock n n c.args.pixels.now c.args.at c.args.stride) sixteen c.requires.room

pub returns : goal.returns
returns g c =
    let pixel : List ℤ → ℕ → ℕ → ℕ = λ (w : List ℤ). patch_pass w c.args.patch.now in
    let own = pixel c.args.horizontal.six.now in
    let is = λ (n : ℕ) (w : List ℤ). IsBlockWritten n n c.args.pixels.now c.vertical_from_panels.new.pixels c.args.at c.args.stride (λ r x. filter_six w (λ k. own (r + k) x)) in
    let sixteen : g.row.N ≡ 16 = elim c.requires.size [ inl eight ↦ absurd (c.if-this-eq8.false eight) | inr sixteen ↦ sixteen ] in
    let near = subst (λ (w : List ℤ). IsPanel c.horizontal_to_panel-2.new.panel (λ i j. pixel w i (0 + j)) 7) c.horizontal_filter-2.ensures.weights ((c.horizontal_to_panel-2.ensures 0 c.horizontal_filter-2.ensures.selects).1 refl) in
    let back = subst (λ (w : List ℤ). IsPanel c.horizontal_to_panel-3.new.panel (λ i j. pixel w i (8 + j)) 7) c.horizontal_filter-3.ensures.weights ((c.horizontal_to_panel-3.ensures 8 c.horizontal_filter-3.ensures.selects).1 refl) in
    subst (λ (n : ℕ). is n c.args.vertical.six.now) (sym sixteen)
    (subst (is 16) c.panel_filter-filter.ensures (c.vertical_from_panels.ensures own (first_columns _ own 7 near, back)))
