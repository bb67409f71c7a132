-- The best vector in a reference frame for a block that was cut from a plane. Each reference frame has one.
use Rattle.std.proofs.Common.{◌≡◌, ◌∙◌, ℕ, ◌<◌, ◌≤◌, true, false, List, refl, arith}
use Rattle.vp_base.specs.declared.place.Place.{Place}
use Rattle.vp_base.specs.Raster.{Raster}
use Rattle.vp_intra.specs.Edges.{block}
use Rattle.vp_intra.proofs.BlockLemmas.{read_block}
use Rattle.vp_search.specs.declared.vector.WholeVector.{WholeVector}
use Rattle.vp_search.specs.declared.vector.QuarterVector.{QuarterVector}
use Rattle.vp_search.specs.declared.vector.Refined.{Refined}
use Rattle.vp_search.specs.Differences.{block16}
use Rattle.vp_search.specs.Vectors.{quarters, IsNear}
use Rattle.vp_search.specs.Blocks.{whole_cost, quarter_cost}
use Rattle.vp_search.specs.Least.{IsLeast}
use Rattle.vp_search.specs.Refined.{IsRefined}
use Rattle.vp_search.proofs.WindowLemmas.{whole_cost-same, quarter_cost-same, least_same}
use Rattle.vp_search.proofs.RefinedLemmas.{refined_same}
use Rattle.vp_search.proofs.Existence.{BestVector, best_vector, best_refined}
use Rattle.vp_choose.specs.Costs.{block_pixels}
use Rattle.vp_choose.specs.Frame.{Search}
use Rattle.vp_choose.specs.Inter.{IsFound, vector_cost, found_in}
use Rattle.vp_choose.specs.Searched.{IsOver, IsFoundIn, IsBestMotion, found_of}
use Rattle.vp_choose.proofs.OneLuma.{either}
use Rattle.vp_head.specs.declared.fields.Reference.TheVariants as reference_is
use Rattle.vp_choose.specs.declared.motion.Moved.{Moved}

module _ (xs : List ℕ) (source : Raster) (reference : Raster) (place : Place) (are : xs ≡ block 16 (block_pixels 16 source place)) where
  pixel_is : (r c : ℕ) → r < 16 → c < 16 → block16 xs r c ≡ block_pixels 16 source place r c
  pixel_is r c rin cin = rw are (read_block 16 (block_pixels 16 source place) r c rin cin)

  cost_is : (v : QuarterVector) → quarter_cost (block16 xs) reference place v ≡ vector_cost source reference place v
  cost_is v = quarter_cost-same (block16 xs) (block_pixels 16 source place) reference place v pixel_is

  pub found_is : (s : Search) (whole : WholeVector) (found : Refined) → IsLeast s.range (whole_cost (block16 xs) reference place) whole
      → (s.subpel ≡ true → IsRefined (quarter_cost (block16 xs) reference place) whole found.vector)
      → (s.subpel ≡ false → found.vector ≡ quarters whole)
      → found.cost ≡ quarter_cost (block16 xs) reference place found.vector → IsFound s source reference place found
  found_is s whole found least refined unrefined cost = record {
    whole = whole;
    least = least_same s.range (whole_cost (block16 xs) reference place) (whole_cost (block_pixels 16 source place) reference place) whole
        (λ u near. whole_cost-same (block16 xs) (block_pixels 16 source place) reference place u pixel_is) least;
    refined = λ on. refined_same (quarter_cost (block16 xs) reference place) (vector_cost source reference place) whole found.vector cost_is (refined on);
    unrefined = unrefined;
    cost = cost ∙ cost_is found.vector;
  }

module _ (s : Search) (source reference : Raster) (place : Place) where
  -- what is found in a reference frame
  pub record HasFound : Type 0 where
    pub found : Refined
    pub is : IsFound s source reference place found

  best_whole : BestVector s.range (whole_cost (block_pixels 16 source place) reference place)
  best_whole = best_vector s.range (whole_cost (block_pixels 16 source place) reference place)

  -- the best vector, if it is not refined
  unrefined_is : s.subpel ≡ false → (whole : BestVector s.range (whole_cost (block_pixels 16 source place) reference place))
      → IsFound s source reference place (record { vector = quarters whole.vector; cost = vector_cost source reference place (quarters whole.vector) })
  unrefined_is off whole = record {
    whole = whole.vector;
    least = whole.is;
    refined = λ on. absurd (let wrong : ⊥ = cc in wrong);
    unrefined = λ _. refl;
    cost = refl;
  }

  pub has_found : HasFound
  has_found =
      let refined = best_refined (vector_cost source reference place) best_whole.vector in
      either s.subpel
      (λ on. record {
        found = record { vector = refined.vector; cost = vector_cost source reference place refined.vector };
        is = record {
          whole = best_whole.vector;
          least = best_whole.is;
          refined = λ _. refined.is;
          unrefined = λ off. absurd (let wrong : ⊥ = cc in wrong);
          cost = refl;
        };
      })
      (λ off. record { found = _; is = unrefined_is off best_whole })

-- the least vector costs at least a limit, and is not refined
pub over_is : (xs : List ℕ) (source reference : Raster) (place : Place) → xs ≡ block 16 (block_pixels 16 source place) → (s : Search) (limit : ℕ) → s.subpel ≡ false
    → ((v : WholeVector) → IsNear s.range v → limit ≤ quarter_cost (block16 xs) reference place (quarters v)) → IsOver s source reference place limit
over_is xs source reference place are s limit off above =
    let whole = best_whole s source reference place in
    record {
      found = _;
      is = unrefined_is s source reference place off whole;
      over = rw (← cost_is xs source reference place are (quarters whole.vector)) (above whole.vector whole.is.near);
    }

-- golden costs no less than nothing, and of equal costs last is chosen
pub free_motion : (s : Search) (source : Raster) (place : Place) (last : Moved) → IsFoundIn s source reference_is.Last place last → last.cost ≡ 0 → IsBestMotion s source place last
free_motion s source place last in_last free =
    let golden : HasFound s source s.references.golden.luma place = has_found s source s.references.golden.luma place in
    let it : last ≡ found_in reference_is.Last (found_of last) = λ i. record { reference = in_last.reference i; vector = last.vector; cost = last.cost } in
    record {
      is = record {
        last = found_of last;
        in_last = in_last.is;
        last_alone = λ _. it;
        golden_too = λ _. record { golden = golden.found; in_golden = golden.is; less = λ less. absurd (omega arith); not_less = λ _. it };
      };
      short = in_last.short;
      inter = rw in_last.reference refl;
    }
