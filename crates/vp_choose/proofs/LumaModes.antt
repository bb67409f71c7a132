-- The choice of the luma mode, and the luma of an intra macroblock.
use Rattle.std.proofs.Common.{◌≡◌, ◌∙◌, ℕ, zero, suc, ◌+◌, ◌*◌, ◌<◌, ◌≤◌, true, false, Some, None, List, [], get_or, refl, sym, arith, inl, inr}
use Rattle.std.proofs.lemmas.Bool.{cases_lt}
use Rattle.vp_base.specs.declared.place.Place.{Place}
use Rattle.vp_base.specs.Raster.{Raster}
use Rattle.vp_base.specs.Block.{with_block}
use Rattle.vp_base.specs.Near.{block_place}
use Rattle.vp_base.proofs.OverLemmas.{over-same}
use Rattle.vp_tables.specs.declared.modes.LumaMode.TheVariants as luma_is
use Rattle.vp_tables.specs.declared.modes.SubMode.TheVariants as sub_is
use Rattle.vp_tables.specs.Modes.{is_by_subblocks}
use Rattle.vp_modes.specs.Entry.{Modes}
use Rattle.vp_tokens.specs.declared.contexts.Tokens.{Tokens}
use Rattle.vp_tokens.specs.Blocks.{block_of}
use Rattle.vp_quant.specs.declared.factors.Factors.{Factors}
use Rattle.vp_intra.specs.Edges.{block}
use Rattle.vp_intra.specs.Whole.{luma_pixel}
use Rattle.vp_intra.proofs.BlockLemmas.{block_same}
use Rattle.vp_recon.specs.Predictor.{Intra, macroblock_of}
use Rattle.vp_recon.specs.Prediction.{luma_prediction}
use Rattle.vp_recon.specs.Residue.{residue}
use Rattle.vp_recon.specs.Rebuilt.{with_sub, luma_rebuilt}
use Rattle.vp_recon.proofs.LumaLemmas.{whole_prediction, subs_alone}
use Rattle.vp_search.specs.FirstLeast.{IsFirstLeast}
use Rattle.vp_search.proofs.RefinedLemmas.{first_same}
use Rattle.vp_choose.specs.declared.subblocks.Subblocks.{Subblocks}
use Rattle.vp_choose.specs.declared.luma.IntraLuma.{IntraLuma}
use Rattle.vp_choose.specs.Costs.{luma_mode_cost}
use Rattle.vp_choose.specs.Subblocks.{AreSubblocksChosen, sub_rebuilt}
use Rattle.vp_choose.specs.Intra.{IsLuma, HasSubblocks, luma_at, luma_cost}
use Rattle.vp_choose.specs.Below.{AreSubblocksOver, IsLumaOver, IsWholeLuma}
use Rattle.vp_choose.specs.Coding.{IsIntraLuma, IsRebuiltLuma}
use Rattle.vp_choose.proofs.SubblockChoice.{HasFirst, has_first, first_before, first_behind, free_subblocks}

-- ---- the choice

four_costs : (f : ℕ → ℕ → ℕ) (p : Raster) (place : Place) (b k : ℕ) → k < 4 → luma_cost f p place b (luma_at k) ≡ luma_mode_cost f p place (luma_at k)
four_costs f p place b zero below = refl
four_costs f p place b (suc zero) below = refl
four_costs f p place b (suc (suc zero)) below = refl
four_costs f p place b (suc (suc (suc zero))) below = refl
four_costs f p place b (suc (suc (suc (suc k)))) below = absurd (omega arith)

module _ (f : ℕ → ℕ → ℕ) (factors : Factors) (place : Place) (p : Raster) where
  first_of_four : (b n : ℕ) → IsFirstLeast 4 (λ k. luma_mode_cost f p place (luma_at k)) n → IsFirstLeast 4 (λ k. luma_cost f p place b (luma_at k)) n
  first_of_four b n = first_same 4 (λ k. luma_mode_cost f p place (luma_at k)) (λ k. luma_cost f p place b (luma_at k)) n (λ k below. sym (four_costs f p place b k below))

  -- B_PRED costs no less
  whole_is : (w : IntraLuma) (s : Subblocks) → IsWholeLuma f place p w → AreSubblocksChosen f factors place p s → w.cost ≤ s.cost + 128
      → IsLuma f factors place p (record { mode = w.mode; subblocks = s; cost = w.cost })
  whole_is w s h chosen most =
      let same = four_costs f p place s.cost h.number h.first.within in
      record {
        subblocks = chosen;
        number = h.number;
        first = first_before 4 (λ k. luma_cost f p place s.cost (luma_at k)) h.number (first_of_four s.cost h.number h.first) (let c = h.cost in omega arith);
        mode = h.mode;
        cost = rw h.mode (h.cost ∙ sym same);
      }

  -- B_PRED costs less
  subblocks_are : (w : IntraLuma) (s : Subblocks) → IsWholeLuma f place p w → AreSubblocksChosen f factors place p s → s.cost + 128 < w.cost
      → IsLuma f factors place p (record { mode = luma_is.B; subblocks = s; cost = s.cost + 128 })
  subblocks_are w s h chosen less =
      let same = four_costs f p place s.cost h.number h.first.within in
      record {
        subblocks = chosen;
        number = 4;
        first = first_behind 4 (λ k. luma_cost f p place s.cost (luma_at k)) h.number (first_of_four s.cost h.number h.first) (let c = h.cost in omega arith);
        mode = refl;
        cost = refl;
      }

  -- the luma by the mode other than B_PRED
  pub whole_intra : (w : IntraLuma) (most : ℕ) → IsWholeLuma f place p w → is_by_subblocks w.mode ≡ false → w.cost ≤ most + 128 → AreSubblocksOver f factors place p most
      → IsIntraLuma f factors place p w
  whole_intra w most h whole enough s =
      let over = s.over in
      record { choice = _; best = whole_is w s.subblocks h s.chosen (omega arith); is = record { mode = refl; subblocks = rw whole h.subblocks; cost = refl } }

  -- .. by B_PRED
  pub subblocks_intra : (w : IntraLuma) (s : Subblocks) (pixels : List ℕ) → IsWholeLuma f place p w → AreSubblocksChosen f factors place p s → s.cost + 128 < w.cost
      → IsIntraLuma f factors place p (record { mode = luma_is.B; prediction = pixels; subblocks = Some s; cost = s.cost + 128 })
  subblocks_intra w s pixels h chosen less = record { choice = _; best = subblocks_are w s h chosen less; is = record { mode = refl; subblocks = refl; cost = refl } }

  -- both cost too much
  pub luma_over : (w : IntraLuma) (limit most : ℕ) → IsWholeLuma f place p w → limit ≤ w.cost → limit ≤ most + 128 → AreSubblocksOver f factors place p most
      → IsLumaOver f factors place p limit
  luma_over w limit most h enough behind s =
      let over = s.over in
      elim (cases_lt (s.subblocks.cost + 128) w.cost) [
        | inl less ↦ record { luma = _; is = subblocks_are w s.subblocks h s.chosen less; over = omega arith }
        | inr more ↦ record { luma = _; is = whole_is w s.subblocks h s.chosen more; over = enough }
      ]

  -- no luma mode costs less than nothing
  pub free_luma : (limit : ℕ) → limit ≡ 0 → IsLumaOver f factors place p limit
  free_luma limit free =
      let best : HasFirst 4 (λ k. luma_mode_cost f p place (luma_at k)) = has_first 3 (λ k. luma_mode_cost f p place (luma_at k)) in
      let w : IntraLuma = record { mode = luma_at best.number; prediction = []; subblocks = None; cost = luma_mode_cost f p place (luma_at best.number) } in
      luma_over w limit 0 (record { number = best.number; first = best.is; mode = refl; cost = refl; subblocks = refl }) (omega arith) (omega arith) (free_subblocks f factors place p 0 refl)

pub ruleset luma_choices = (free_luma, luma_over, whole_intra, subblocks_intra)

-- ---- its prediction

module _ (m : Modes) (place : Place) (p : Raster) where
  pub at_once : is_by_subblocks m.luma ≡ false → block 16 (luma_pixel m.luma p (16 * place.column) (16 * place.row)) ≡ block 16 (luma_prediction (Intra m) place p)
  at_once whole = block_same 16 (luma_pixel m.luma p (16 * place.column) (16 * place.row)) (luma_prediction (Intra m) place p)
      (λ r j rin jin. sym (whole_prediction m place p r j whole))

  pub by_subblocks : (factors : Factors) (s : Subblocks) (pixels : List ℕ) → is_by_subblocks m.luma ≡ true → m.subs ≡ s.modes
      → IsRebuiltLuma factors place p s pixels → (t : Tokens) → HasSubblocks s t
      → with_block p (16 * place.column) (16 * place.row) 16 16 (λ r j. get_or pixels (r * 16 + j) 0) ≡ luma_rebuilt (macroblock_of (Intra m) t factors) place p
  by_subblocks factors s pixels sub modes rebuilt t has =
      rebuilt.is
      ∙ over-same 16 (sub_rebuilt factors place s)
      (λ k q. with_sub q (block_place 4 place k) (get_or m.subs k sub_is.Dc) (residue (block_of t (1 + k)).levels factors.y_dc factors.y_ac)) p
      (λ k below q. rw (modes, has.luma k below))
      ∙ sym (subs_alone m t factors place p sub)
