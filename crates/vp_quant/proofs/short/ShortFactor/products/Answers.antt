use Rattle.std.proofs.Common.{◌≡◌, ◌∙◌, ◌<◌, ◌≤◌, ℕ, ℤ, pos, ◌*ℤ◌, List, Some, lit<, sym, ap, subst, unsigned_abs}
use Rattle.std.proofs.lemmas.Bool.{false≢true}
use Rattle.vp_lanes.specs.Lane.{lane}
use Rattle.vp_quant.proofs.Products.{products, products_within, small_below}
use Rattle.vp_quant.proofs.Sixteen.{inside, read, whole}
use Rattle.vp_quant.specs.Short.{IsShortFactor}
use Rattle.vp_quant.proofs.short.ShortFactor.products.Goals as goal

pub sizes-requires : goal.sizes-requires
sizes-requires c = (lit< tt, (lit< tt, λ j h. subst (λ (v : List ℤ). unsigned_abs (lane v j) ≤ 32767) (sym (whole 8 c.args.levels _ c.well_formed.1.0)) (c.requires j h)))

below : (c : goal.After-row_known-1) (j : ℕ) → j < 8 → unsigned_abs (lane (read c.args.levels) j) < c.args.self.now.bound
below c j h = subst (λ n. n < c.args.self.now.bound) (c.sizes.ensures j h) (c.eight_are_below.ensures.below c.if-eight_are_below.true j h)

module _ (c : goal.After-row_known-1) (factor most : ℕ) (is : IsShortFactor c.args.self.now factor most) where
  value : (v : List ℤ) → Some (read c.times.result) ≡ Some v → (j : ℕ) → j < 8 → lane v j ≡ lane c.args.levels j *ℤ pos factor
  value v e j h =
      ap (λ (u : List ℤ). lane u j) (sym (ap inside e) ∙ whole 8 c.times.result _ c.times.type_inv)
      ∙ products 8 c.args.self.now (read c.args.levels) c.args.levels (whole 8 c.args.levels _ c.well_formed.1.0) (below c) factor most is c.times.result c.times.ensures j h

  small : (j : ℕ) → j < 8 → unsigned_abs (lane c.args.levels j *ℤ pos factor) ≤ most
  small = products_within 8 c.args.self.now (read c.args.levels) c.args.levels (whole 8 c.args.levels _ c.well_formed.1.0) (below c) factor most is

pub returns-then-eight_are_below-clause-value : goal.returns-then-eight_are_below-clause-value
returns-then-eight_are_below-clause-value c v factor most e is j h = value c factor most is v e j h

pub returns-then-eight_are_below-clause-small : goal.returns-then-eight_are_below-clause-small
returns-then-eight_are_below-clause-small c v factor most e is j h =
    subst (λ (z : ℤ). unsigned_abs z ≤ most) (sym (value c factor most is v e j h)) (small c factor most is j h)

pub returns-else-eight_are_below-clause-some : goal.returns-else-eight_are_below-clause-some
returns-else-eight_are_below-clause-some c factor most is near e =
    let f = c.args.self.now in
    let same = sym (whole 8 c.args.levels _ c.well_formed.1.0) in
    let size : (j : ℕ) → j < 8 → unsigned_abs (lane (read c.args.levels) j) < f.bound = λ j h.
    subst (λ (v : List ℤ). unsigned_abs (lane v j) < f.bound) same (small_below f factor most is (lane c.args.levels j) (near j h)) in
    let full = c.eight_are_below.ensures.all (λ j h. subst (λ n. n < f.bound) (sym (c.sizes.ensures j h)) (size j h)) in
    absurd (false≢true (sym c.if-eight_are_below.false ∙ full))
