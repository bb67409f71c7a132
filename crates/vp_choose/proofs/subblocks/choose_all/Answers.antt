use Rattle.std.proofs.Common.{◌≡◌, ◌∙◌, ℕ, ◌+◌, ◌<◌, List, length, replicate, refl, ap, arith, rules}
use Rattle.vp_base.specs.declared.place.Place.{Place}
use Rattle.vp_base.specs.Raster.{Raster}
use Rattle.vp_base.specs.Image.{Image}
use Rattle.vp_base.proofs.OverLemmas.{over-none}
use Rattle.vp_tables.specs.declared.modes.SubMode.{SubMode}
use Rattle.vp_tables.specs.declared.modes.SubMode.TheVariants.{Dc}
use Rattle.vp_tokens.specs.Block.{Block, no_tokens}
use Rattle.vp_quant.specs.declared.factors.Factors.{Factors}
use Rattle.vp_choose.specs.declared.subblocks.Subblocks.{Subblocks}
use Rattle.vp_choose.specs.Levels.{part}
use Rattle.vp_choose.specs.Subblocks.{after_subblocks, sub_rebuilt}
use Rattle.vp_choose.proofs.SubblockChoice.{made, after_new, one_more, none_chosen, left}
use Rattle.vp_choose.proofs.BlockLevels.{none_ended}
use Rattle.vp_choose.proofs.subblocks.choose_all.Goals as goal

pub loop-k-init : goal.loop-k-init
loop-k-init c =
    let p : Raster = c.args.picture.now.luma in
    let none : Subblocks = made (replicate 16 Dc) (replicate 25 no_tokens) in
    record {
      modes_size = refl;
      blocks_size = refl;
      no_y2 = refl;
      chosen = λ f e. none_chosen f c.args.factors.now c.args.place p none;
      rebuilt = rw (over-none (sub_rebuilt c.args.factors.now c.args.place none) p);
      wide = refl;
      high = refl;
      ended = none_ended 25;
      bound = omega arith;
    }

pub loop-k-preserved : goal.loop-k-preserved
loop-k-preserved c =
    let factors : Factors = c.args.factors.now in
    let place : Place = c.args.place in
    let p : Raster = c.args.picture.now.luma in
    let k : ℕ = c.loop-k.k in
    let modes : List SubMode = c.loop-k.modes in
    let blocks : List Block = c.loop-k.blocks in
    let mode : SubMode = c.choose_subblock-chosen.result.mode in
    let own : Block = c.choose_subblock-chosen.result.block in
    let old = c.loop-k.invariant in
    let here = c.choose_subblock-chosen.ensures in
    let m : c.loop-k.k < length c.loop-k.modes = omega arith in
    let l : 1 + c.loop-k.k < length c.loop-k.blocks = omega (arith, old.blocks_size) in
    let luma : c.loop-k.picture.luma ≡ after_subblocks factors place p (made modes blocks) k = ap (λ (i : Image). i.luma) old.rebuilt in
    record {
      modes_size = search rules;
      blocks_size = search rules;
      no_y2 = search rules;
      chosen = λ f e.
          let cut = c.part_of-part.ensures f e in
          one_more factors place p modes blocks k mode own m l f c.loop-k.cost c.choose_subblock-chosen.result.cost (old.chosen f e)
          (rw luma at (here.mode (part 4 f k) cut)) (rw luma at (here.levels (part 4 f k) cut)) (rw luma at (here.cost (part 4 f k) cut));
      rebuilt = here.rebuilt ∙ rw (old.rebuilt, after_new factors place p modes blocks k mode own m l);
      wide = ap (λ (i : Image). i.luma.width) here.rebuilt ∙ old.wide;
      high = ap (λ (i : Image). i.luma.height) here.rebuilt ∙ old.high;
      ended = search rules;
      bound = let b = here.bound in let before = old.bound in omega arith;
    }

pub returns-then-cost-limit-clause-chosen : goal.returns-then-cost-limit-clause-chosen
returns-then-cost-limit-clause-chosen c f e =
    left f c.args.factors.now c.args.place c.args.picture.now.luma c.args.limit c.loop-k.k c.loop-k.cost c.loop-k.modes c.loop-k.blocks (omega arith) (omega arith)
    c.loop-k.invariant.modes_size c.loop-k.invariant.blocks_size (c.loop-k.invariant.chosen f e)
