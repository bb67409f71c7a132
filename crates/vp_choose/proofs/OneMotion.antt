-- What is chosen for the motion of a macroblock is one.
use Rattle.std.proofs.Common.{◌≡◌, ◌∙◌, ℕ, refl, sym, ap, subst, arith, inl, inr}
use Rattle.std.proofs.lemmas.Grind.{common_steps}
use Rattle.std.proofs.lemmas.Bool.{cases_lt}
use Rattle.vp_base.specs.declared.place.Place.{Place}
use Rattle.vp_base.specs.Raster.{Raster}
use Rattle.vp_tables.specs.declared.modes.VectorMode.{VectorMode}
use Rattle.vp_tables.specs.declared.modes.VectorMode.TheVariants as vector_is
use Rattle.vp_head.specs.declared.fields.Reference.TheVariants as reference_is
use Rattle.vp_motion.specs.Vector.{Vector, Candidates}
use Rattle.vp_search.specs.declared.vector.WholeVector.{WholeVector}
use Rattle.vp_search.specs.declared.vector.Refined.{Refined}
use Rattle.vp_search.specs.Vectors.{quarters}
use Rattle.vp_search.specs.Blocks.{whole_cost}
use Rattle.vp_search.specs.Least.{IsLeast}
use Rattle.vp_search.specs.Refined.{IsRefined}
use Rattle.vp_search.proofs.RefinedLemmas.{refined_is_one}
use Rattle.vp_choose.specs.declared.motion.Moved.{Moved}
use Rattle.vp_choose.specs.Costs.{block_pixels}
use Rattle.vp_choose.specs.Frame.{Search}
use Rattle.vp_choose.specs.Inter.{IsFound, IsMoved, IsFirstGiving, found_in, vector_cost}
use Rattle.vp_choose.proofs.OneLuma.{either}

least_is_one : (range : ℕ) (cost : WholeVector → ℕ) (v w : WholeVector) → IsLeast range cost v → IsLeast range cost w → v ≡ w
least_is_one range cost v w p q = grind (arith, common_steps)

refined_of : (a b : Refined) → a.vector ≡ b.vector → a.cost ≡ b.cost → a ≡ b
refined_of a b v c = λ i. record { vector = v i; cost = c i }

found_is_one : (s : Search) (source reference : Raster) (place : Place) (a b : Refined) → IsFound s source reference place a → IsFound s source reference place b → a ≡ b
found_is_one s source reference place a b h k =
    let whole : h.whole ≡ k.whole = least_is_one s.range (whole_cost (block_pixels 16 source place) reference place) h.whole k.whole h.least k.least in
    let vector : a.vector ≡ b.vector = either s.subpel
    (λ on. refined_is_one (vector_cost source reference place) k.whole a.vector b.vector
    (subst (λ (w : WholeVector). IsRefined (vector_cost source reference place) w a.vector) whole (h.refined on)) (k.refined on))
    (λ off. h.unrefined off ∙ ap quarters whole ∙ sym (k.unrefined off)) in
    refined_of a b vector (h.cost ∙ ap (vector_cost source reference place) vector ∙ sym k.cost)

pub moved_is_one : (s : Search) (source : Raster) (place : Place) (a b : Moved) → IsMoved s source place a → IsMoved s source place b → a ≡ b
moved_is_one s source place a b h k =
    let last : h.last ≡ k.last = found_is_one s source s.references.last.luma place h.last k.last h.in_last k.in_last in
    either s.golden
    (λ on.
    let x = h.golden_too on in
    let y = k.golden_too on in
    let golden : x.golden ≡ y.golden = found_is_one s source s.references.golden.luma place x.golden y.golden x.in_golden y.in_golden in
    let g : x.golden.cost ≡ y.golden.cost = ap (λ (r : Refined). r.cost) golden in
    let l : h.last.cost ≡ k.last.cost = ap (λ (r : Refined). r.cost) last in
    elim (cases_lt x.golden.cost h.last.cost) [
      | inl less ↦ x.less less ∙ ap (found_in reference_is.Golden) golden ∙ sym (y.less (omega arith))
      | inr more ↦ x.not_less (omega arith) ∙ ap (found_in reference_is.Last) last ∙ sym (y.not_less (omega arith))
    ])
    (λ off. h.last_alone off ∙ ap (found_in reference_is.Last) last ∙ sym (k.last_alone off))

pub giving_is_one : (c : Candidates) (v : Vector) (a b : VectorMode) → IsFirstGiving c v a → IsFirstGiving c v b → a ≡ b
giving_is_one c v vector_is.Zero vector_is.Zero p q = refl
giving_is_one c v vector_is.Nearest vector_is.Nearest p q = refl
giving_is_one c v vector_is.Near vector_is.Near p q = refl
giving_is_one c v vector_is.New vector_is.New p q = refl
giving_is_one c v a b p q = absurd (grind arith)
