use Rattle.std.proofs.Common.{◌≡◌, ◌∙◌, ◌+◌, ◌*◌, ◌<◌, ℕ, pos, List, [], length, get_or, refl, ap, rules}
use Rattle.std.proofs.lemmas.List.{get_or-map}
use Rattle.vp_base.specs.Image.{with_plane}
use Rattle.vp_base.proofs.BlockLemmas.{with_block_same}
use Rattle.vp_tables.specs.declared.modes.SubMode.{SubMode}
use Rattle.vp_tables.specs.declared.modes.SubMode.TheVariants.{Dc}
use Rattle.vp_intra.specs.Edges.{block}
use Rattle.vp_intra.proofs.BlockLemmas.{read_block}
use Rattle.vp_intra.specs.Sub.{sub_modes, sub_pixel}
use Rattle.vp_recon.specs.Residue.{residue}
use Rattle.vp_recon.specs.Rebuilt.{summed}
use Rattle.vp_search.specs.FirstLeast.{IsFirstLeast}
use Rattle.vp_search.proofs.RefinedLemmas.{first_same}
use Rattle.vp_choose.specs.Costs.{sub_cost}
use Rattle.vp_choose.proofs.Listed.{differences-listed}
use Rattle.vp_choose.specs.Subblocks.{mode_at}
use Rattle.vp_choose.proofs.subblocks.choose_subblock.Goals as goal

module _ (c : goal.After-result-1) where
  predicted_at : (i : ℕ) → i < 10
      → get_or c.predict_sub_modes-predictions.result i [] ≡ block 4 (sub_pixel (mode_at i) c.args.picture.now.luma (4 * c.args.place.column) (4 * c.args.place.row))
  predicted_at i below =
      let all = rw c.plane-3.ensures at c.predict_sub_modes-predictions.ensures in
      rw all (get_or-map (λ (m : SubMode). block 4 (sub_pixel m c.args.picture.now.luma (4 * c.args.place.column) (4 * c.args.place.row))) sub_modes i Dc [] below)

  cost_at : (f : ℕ → ℕ → ℕ) → c.args.source.now ≡ block 4 f → (i : ℕ) → i < 10 → get_or c.costs_of-costs.result i 0 ≡ sub_cost f c.args.picture.now.luma c.args.place (mode_at i)
  unfolding sub_cost
  cost_at f e i below = c.costs_of-costs.ensures.value i below
      ∙ differences-listed 4 c.args.source.now (get_or c.predict_sub_modes-predictions.result i []) f
      (sub_pixel (mode_at i) c.args.picture.now.luma (4 * c.args.place.column) (4 * c.args.place.row)) e (predicted_at i below)

  first : IsFirstLeast 10 (λ i. get_or c.costs_of-costs.result i 0) c.first_least-best.result
  first = let long : length c.costs_of-costs.result ≡ 10 = search rules in rw long at c.first_least-best.ensures

pub returns-clause-mode : goal.returns-clause-mode
returns-clause-mode c f e = record {
  number = c.first_least-best.result;
  first = first_same 10 (λ i. get_or c.costs_of-costs.result i 0) (λ i. sub_cost f c.args.picture.now.luma c.args.place (mode_at i)) c.first_least-best.result (cost_at c f e) (first c);
  is = refl;
}

pub returns-clause-cost : goal.returns-clause-cost
returns-clause-cost c f e = cost_at c f e c.first_least-best.result (first c).within

pub returns-clause-rebuilt : goal.returns-clause-rebuilt
returns-clause-rebuilt c =
    let p = c.args.picture.now in
    let mode : SubMode = mode_at c.first_least-best.result in
    let x : ℕ = 4 * c.args.place.column in
    let y : ℕ = 4 * c.args.place.row in
    let own = residue c.quantised-block.result.levels c.args.factors.now.y_dc c.args.factors.now.y_ac in
    let made = predicted_at c c.first_least-best.result (first c).within in
    let prediction : List ℕ = get_or c.predict_sub_modes-predictions.result c.first_least-best.result [] in
    c.rebuild_subblock_from.ensures
    ∙ ap (with_plane p 0) (with_block_same p.luma x y 4 4
    (λ r j. summed (get_or prediction (r * 4 + j) 0) (get_or own (4 * r + j) (pos 0)))
    (λ r j. summed (sub_pixel mode p.luma x y r j) (get_or own (4 * r + j) (pos 0)))
    (λ r j rin jin. rw (made, read_block 4 (sub_pixel mode p.luma x y) r j rin jin)))
