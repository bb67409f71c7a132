use Rattle.std.proofs.Common.{◌≡◌, ◌∙◌, ℕ, ◌+◌, ◌*◌, ◌<◌, List, get_or, ap, arith}
use Rattle.vp_base.specs.declared.place.Place.{Place}
use Rattle.vp_base.specs.Raster.{Raster}
use Rattle.vp_base.specs.Block.{with_block, IsWhole}
use Rattle.vp_base.specs.Image.{Image, with_plane}
use Rattle.vp_quant.specs.declared.factors.Factors.{Factors}
use Rattle.vp_choose.specs.Costs.{block_pixels}
use Rattle.vp_choose.specs.Subblocks.{after_subblocks}
use Rattle.vp_choose.specs.Below.{IsPartlyRebuilt}
use Rattle.vp_choose.specs.declared.subblocks.Subblocks.{Subblocks}
use Rattle.vp_choose.proofs.Restored.{after_outside, restored, written_back}
use Rattle.vp_choose.proofs.subblocks.choose_subblocks.Goals as goal

-- the macroblock is written as it was
kept_is : (factors : Factors) (place : Place) (p now next : Image) (xs : List ℕ) → IsWhole p.luma → IsPartlyRebuilt factors place p now
    → next ≡ with_plane now 0 (with_block now.luma (16 * place.column) (16 * place.row) 16 16 (λ r j. get_or xs (r * 16 + j) 0))
    → ((r j : ℕ) → r < 16 → j < 16 → get_or xs (r * 16 + j) 0 ≡ block_pixels 16 p.luma place r j) → next ≡ p
kept_is factors place p now next xs whole r written are =
    let f = λ (r : ℕ) (j : ℕ). get_or xs (r * 16 + j) 0 in
    written ∙ rw r.is (ap (with_plane p 0) (restored p.luma (after_subblocks factors place p.luma r.subblocks r.number) place f whole (after_outside factors place p.luma r.subblocks r.number r.most) are))

pub returns-in_default-clause-kept : goal.returns-in_default-clause-kept
returns-in_default-clause-kept c =
    kept_is c.args.factors.now c.args.place c.args.picture.now c.choose_all-chosen.new.picture c.write_block.new.self c.cut_luma-kept.result
    (rw (← c.plane.ensures) c.width.ensures.whole) c.choose_all-chosen.ensures.rebuilt c.write_block.ensures
    (λ r j rin jin. c.cut_luma-kept.ensures r j rin jin ∙ rw c.plane-3.ensures)

pub returns-in-Some-clause-kept : goal.returns-in-Some-clause-kept
returns-in-Some-clause-kept c =
    kept_is c.args.factors.now c.args.place c.args.picture.now c.choose_all-chosen.new.picture c.write_block.new.self c.cut_luma-kept.result
    (rw (← c.plane.ensures) c.width.ensures.whole) c.choose_all-chosen.ensures.rebuilt c.write_block.ensures
    (λ r j rin jin. c.cut_luma-kept.ensures r j rin jin ∙ rw c.plane-3.ensures)

pub returns-in-Some-clause-rebuilt : goal.returns-in-Some-clause-rebuilt
returns-in-Some-clause-rebuilt c =
    let p : Raster = c.args.picture.now.luma in
    let s : Subblocks = c.in-Some.subblocks in
    let whole : IsWhole p = rw (← c.plane.ensures) c.width.ensures.whole in
    let now : c.choose_all-chosen.new.picture ≡ with_plane c.args.picture.now 0 (after_subblocks c.args.factors.now c.args.place p s 16) =
    rw c.in-Some.is at c.choose_all-chosen.ensures.all_rebuilt in
    record {
      is = written_back c.args.factors.now c.args.place p s 16 (λ r j. get_or c.cut_luma-luma.result (r * 16 + j) 0) (omega arith) whole
          (λ r j rin jin. c.cut_luma-luma.ensures r j rin jin ∙ rw (c.plane-4.ensures, now));
      writable = rw c.in-Some.is at c.choose_all-chosen.ensures.writable;
    }
