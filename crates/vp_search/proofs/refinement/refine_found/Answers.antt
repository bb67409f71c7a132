use Rattle.std.proofs.Common.{◌≡◌, ◌∙◌, ℕ, pos, List, sym, subst}
use Rattle.vp_search.specs.declared.vector.QuarterVector.{QuarterVector}
use Rattle.vp_search.specs.Differences.{block16}
use Rattle.vp_search.specs.Blocks.{quarter_cost}
use Rattle.vp_search.specs.Vectors.{quarters}
use Rattle.vp_search.specs.Refined.{IsBestOf, IsRefined}
use Rattle.vp_search.proofs.RefinedLemmas.{unmoved}
use Rattle.vp_search.proofs.refinement.refine_found.Goals as goal

pub returns-clause-refined : goal.returns-clause-refined
returns-clause-refined c =
    let found = c.refine_target.ensures.refined in
    record {
      halfway = found.halfway;
      first = subst (λ (v : QuarterVector). IsBestOf (quarter_cost (block16 c.args.block.now) c.args.reference.now c.args.place) v (pos 2) found.halfway)
          c.quarters.ensures
          (subst (λ (b : List ℕ). IsBestOf (quarter_cost (block16 b) c.args.reference.now c.args.place) c.quarters.result (pos 2) found.halfway) c.of.ensures found.first);
      second = subst (λ (b : List ℕ). IsBestOf (quarter_cost (block16 b) c.args.reference.now c.args.place) found.halfway (pos 1) c.refine_target.result.vector) c.of.ensures found.second;
    }

pub returns-then-middle-eq0-clause-refined : goal.returns-then-middle-eq0-clause-refined
returns-then-middle-eq0-clause-refined c =
    let cost : QuarterVector → ℕ = quarter_cost (block16 c.args.block.now) c.args.reference.now c.args.place in
    let v : QuarterVector = quarters c.args.found.vector in
    let free : cost v ≡ 0 = sym c.requires.cost ∙ c.if-middle-eq0.true in
    subst (λ (w : QuarterVector). IsRefined cost c.args.found.vector w) (sym c.quarters.ensures) (record {
      halfway = v;
      first = unmoved cost v (pos 2) free;
      second = unmoved cost v (pos 1) free;
    })
