use Rattle.std.proofs.Common.{◌≡◌, ◌<◌, ◌≤◌, Some, ap, arith}
use Rattle.std.specs.Option.{option_map}
use Rattle.std.proofs.lemmas.Grind.{common_steps}
use Rattle.std.proofs.lemmas.Option.{IfSome_then}
use Rattle.vp_base.specs.Image.{Image}
use Rattle.vp_choose.specs.declared.motion.Moved.{Moved}
use Rattle.vp_choose.specs.Costs.{block_pixels}
use Rattle.vp_choose.specs.Frame.{lent_frame, search_of}
use Rattle.vp_choose.specs.Searched.{IsSearched, IsBestMotion}
use Rattle.vp_choose.proofs.Chosen.{intra_coded, inter_coded}
use Rattle.vp_choose.proofs.macroblock.choose_coding.Goals as goal

pub returns-in-Some-clause-chosen : goal.returns-in-Some-clause-chosen
returns-in-Some-clause-chosen c =
    let frame = lent_frame c.args.frame.now in
    let q : Image = c.choose_luma_below.new.picture in
    let is = c.in-Some.ensures.luma (block_pixels 16 frame.source.luma c.args.place) c.requires.cut.luma in
    let predicted = c.in-Some.ensures.predicted in
    let below : (x : Moved) → c.args.moved ≡ Some x → is.choice.cost < x.cost = λ x e. let same = is.is.cost in grind (arith, common_steps) in
    record {
      luma = is.choice;
      best = rw c.in-Some.ensures.kept is.best;
      coded = intra_coded frame q c.args.vectors.now c.args.place c.intra_coding.result is.choice c.args.moved c.requires.moved below c.intra_coding.ensures.reference
          (c.intra_coding.ensures.coded frame.source frame.factors is.choice c.requires.cut (rw c.in-Some.ensures.kept predicted) is.is);
      writable = rw c.intra_coding.ensures.subblocks (IfSome_then c.in-Some.luma.subblocks predicted.by_subblocks (λ s r. r.writable));
      motion = c.intra_coding.ensures.motion c.args.vectors.now;
    }

pub returns-clause-chosen : goal.returns-clause-chosen
returns-clause-chosen c =
    let frame = lent_frame c.args.frame.now in
    let s = search_of c.unwrap.result in
    let x : Moved = c.unwrap-2.result in
    let q : Image = c.choose_luma_below.new.picture in
    let over = c.in_default.ensures.luma (block_pixels 16 frame.source.luma c.args.place) c.requires.cut.luma in
    let searched : IsSearched (option_map search_of c.args.frame.now.search) frame.source.luma c.args.place (Some x) = rw (← c.unwrap-2.ensures) c.requires.moved in
    let known : IsBestMotion s frame.source.luma c.args.place x = rw c.unwrap.ensures at searched in
    let most : x.cost ≤ over.luma.cost = let o = over.over in grind (arith, common_steps) in
    record {
      luma = over.luma;
      best = rw c.in_default.ensures.kept over.is;
      coded = inter_coded frame q c.args.vectors.now c.args.place c.inter_coding.result over.luma s x searched (ap (option_map search_of) c.unwrap.ensures) most c.inter_coding.ensures.reference
          (c.inter_coding.ensures.coded frame.source q frame.factors);
      writable = rw c.inter_coding.ensures.subblocks tt;
      motion = c.inter_coding.ensures.motion known.inter;
    }
