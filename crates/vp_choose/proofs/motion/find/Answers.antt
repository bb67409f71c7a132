use Rattle.std.proofs.Common.{refl, arith}
use Rattle.std.proofs.lemmas.Int.{ints}
use Rattle.vp_base.specs.Raster.{Raster}
use Rattle.vp_refs.specs.References.{reference_picture}
use Rattle.vp_choose.specs.Frame.{search_of}
use Rattle.vp_choose.proofs.Found.{found_is}
use Rattle.vp_choose.proofs.motion.find.Goals as goal

pub returns-clause-found : goal.returns-clause-found
returns-clause-found c source cut =
    let p : Raster = (reference_picture c.args.search.now.references.now c.args.reference).luma in
    let least = rw (c.unwrap-whole.ensures, c.requires.searcher) at c.search-2.ensures.least in
    let refine = rw (c.search-2.ensures.kept, c.requires.searcher) at c.refined-cost.ensures in
    let range = c.requires.range in
    let near = least.near in
    let y = near.0 in
    let x = near.1 in
    let row = refine.row in
    let column = refine.column in
    record {
      reference = refl;
      is = found_is c.args.block.now source p c.args.place cut (search_of c.args.search.now) c.unwrap-whole.result.vector c.refined-cost.result least
          (λ _. refine.refined) (λ off. absurd (let wrong : ⊥ = cc in wrong)) refine.cost;
      short = (omega (arith, ints), omega (arith, ints));
    }
