use Rattle.std.proofs.Common.{◌≡◌, ◌∙◌, ◌<◌, ◌≤◌, ℕ, ℤ, pos, List, [], ◌∷◌, Some, lit<, sym, ap, subst, w16, unsigned_abs, slice_index_or}
use Rattle.std.proofs.lemmas.Bool.{false≢true}
use Rattle.vp_lanes.specs.Lane.{lane}
use Rattle.vp_lanes.proofs.Shape.{signed_lanes}
use Rattle.vp_lanes.proofs.Signed.{stands_of}
use Rattle.vp_quant.proofs.Products.{products, products_within, small_below, coefficients_are, coefficients_within}
use Rattle.vp_quant.proofs.Sixteen.{inside, read, whole}
use Rattle.vp_quant.specs.Short.{IsShortFactor, in_raster, after_dcs, coefficients_after}
use Rattle.vp_quant.proofs.short.ShortFactor.coefficients.Goals as goal

pub sizes-requires : goal.sizes-requires
sizes-requires c = (lit< tt, (lit< tt, λ j h. subst (λ (v : List ℤ). unsigned_abs (lane v j) ≤ 32767) (sym (whole 16 c.args.levels _ c.well_formed.1.0)) (c.requires j)))

below : (c : goal.After-row_known-1) (j : ℕ) → j < 16 → unsigned_abs (lane (read c.args.levels) j) < c.args.self.now.bound
below c j h = subst (λ n. n < c.args.self.now.bound) (c.sizes.ensures j h) (c.are_below.ensures.below c.if-are_below.true j h)

module _ (c : goal.After-row_known-1) (factor most : ℕ) (is : IsShortFactor c.args.self.now factor most) where
  placed : (block : List ℤ) → Some (read c.placed.result) ≡ Some block → block ≡ coefficients_after c.args.dc c.args.levels factor
  placed block e =
      sym (ap inside e) ∙ whole 16 c.placed.result _ c.placed.type_inv ∙ c.placed.ensures
      ∙ ap (λ (v : List ℤ). in_raster (lane v)) (whole 16 c.with_dc.result _ c.with_dc.type_inv ∙ c.with_dc.ensures
      ∙ ap (λ (z : ℤ). after_dcs 1 (z ∷ []) (read c.times.result)) (stands_of c.args.dc c.ranges.dc).is
      ∙ ap (λ (v : List ℤ). after_dcs 1 (c.args.dc ∷ []) v) (whole 16 c.times.result _ c.times.type_inv))
      ∙ coefficients_are c.args.dc c.args.levels c.times.result factor
      (products 16 c.args.self.now (read c.args.levels) c.args.levels (whole 16 c.args.levels _ c.well_formed.1.0) (below c) factor most is c.times.result c.times.ensures)

pub returns-then-are_below-clause-value : goal.returns-then-are_below-clause-value
returns-then-are_below-clause-value c block factor most e is = placed c factor most is block e

pub returns-then-are_below-clause-small : goal.returns-then-are_below-clause-small
returns-then-are_below-clause-small c block factor most e is h =
    let levels = c.args.levels in
    subst (λ (b : List ℤ). (i : ℕ) → unsigned_abs (slice_index_or b i (pos 0)) ≤ most) (sym (placed c factor most is block e))
    (coefficients_within c.args.dc levels factor most (signed_lanes w16 16 levels _ c.well_formed.1.0).0
    (products_within 16 c.args.self.now (read levels) levels (whole 16 levels _ c.well_formed.1.0) (below c) factor most is) h)

pub returns-else-are_below-clause-some : goal.returns-else-are_below-clause-some
returns-else-are_below-clause-some c factor most is near e =
    let f = c.args.self.now in
    let same = sym (whole 16 c.args.levels _ c.well_formed.1.0) in
    let size : (j : ℕ) → j < 16 → unsigned_abs (lane (read c.args.levels) j) < f.bound = λ j h.
    subst (λ (v : List ℤ). unsigned_abs (lane v j) < f.bound) same (small_below f factor most is (lane c.args.levels j) (near j h)) in
    let full = c.are_below.ensures.all (λ j h. subst (λ n. n < f.bound) (sym (c.sizes.ensures j h)) (size j h)) in
    absurd (false≢true (sym c.if-are_below.false ∙ full))
