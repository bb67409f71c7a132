use Rattle.std.proofs.Common.{◌≡◌, ◌∙◌, ◌<◌, ◌≤◌, ◌*◌, ◌%◌, ℕ, ℤ, pos, ◌*ℤ◌, Option, Some, None, to_z, of_z, w16, sym, ap, subst, unsigned_abs}
use Rattle.vp_lanes.proofs.Signed.{stands_of, stands_mul}
use Rattle.vp_quant.proofs.Products.{factor_fits, held_product, product_short, product_within}
use Rattle.vp_quant.proofs.Sixteen.{short_of}
use Rattle.vp_quant.specs.Short.{IsShortFactor}
use Rattle.vp_quant.proofs.short.ShortFactor.product.Goals as goal

abbrev inside : Option ℤ → ℤ
inside None = pos 0
inside (Some z) = z

module _ (c : goal.After-result-1) (factor most : ℕ) (is : IsShortFactor c.args.self.now factor most) where
  below : unsigned_abs c.args.level < c.args.self.now.bound
  below = subst (λ n. n < c.args.self.now.bound) (c.unsigned_abs.ensures.value ∙ ap (λ (z : ℤ). unsigned_abs z) (stands_of c.args.level c.ranges.level).is) c.if-unsigned_abs-self.true

  value : (z : ℤ) → Some (to_z w16 (of_z w16 c.args.level * of_z w16 c.args.self.now.factor % 65536)) ≡ Some z → z ≡ c.args.level *ℤ pos factor
  value z e =
      sym (ap inside e) ∙ (stands_mul (stands_of c.args.level c.ranges.level) (stands_of c.args.self.now.factor (factor_fits c.args.self.now factor most is))
      (short_of _ (product_short c.args.self.now factor most is c.args.level below))).is
      ∙ held_product c.args.self.now factor most is c.args.level below

pub returns-then-unsigned_abs-self-clause-value : goal.returns-then-unsigned_abs-self-clause-value
returns-then-unsigned_abs-self-clause-value c z factor most e is = value c factor most is z e

pub returns-then-unsigned_abs-self-clause-small : goal.returns-then-unsigned_abs-self-clause-small
returns-then-unsigned_abs-self-clause-small c z factor most e is =
    subst (λ (y : ℤ). unsigned_abs y ≤ most) (sym (value c factor most is z e)) (product_within c.args.self.now factor most is c.args.level (below c factor most is))
