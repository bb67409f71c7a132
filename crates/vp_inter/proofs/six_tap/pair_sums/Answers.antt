use Rattle.std.proofs.Common.{arith, ◌∙◌, ◌+◌, ◌*◌, ℤ, pos, negsuc, ◌≤ℤ◌, subst, sym, ap, w8, w16, w32}
use Rattle.std.specs.Int.{int_min, int_max}
use Rattle.vp_inter.proofs.LongLanes.{passed, product_same, sum_same, held_same}
use Rattle.vp_inter.proofs.six_tap.pair_sums.Goals as goal

pub added-requires-clause-first : goal.added-requires-clause-first
added-requires-clause-first c j h =
    subst (λ (z : ℤ). (negsuc 32639 ≤ℤ z) × (z ≤ℤ pos 32640)) (sym (passed w32 8 c.products.result _ c.products.type_inv j h)) (c.products.ensures.range j h)

pub added-requires-clause-second : goal.added-requires-clause-second
added-requires-clause-second c j h =
    subst (λ (z : ℤ). (negsuc 32639 ≤ℤ z) × (z ≤ℤ pos 32640)) (sym (passed w32 8 c.products-2.result _ c.products-2.type_inv j h)) (c.products-2.ensures.range j h)

pub returns : goal.returns
returns c j h =
    let even = passed w32 8 c.products.result _ c.products.type_inv j h ∙ c.products.ensures.value j h
    ∙ product_same _ _ _ _ (c.evens.ensures j h) (passed w8 8 c.even_weights.result _ c.even_weights.type_inv j h ∙ c.even_weights.ensures j h ∙ passed w8 16 c.args.w _ c.well_formed.1.0 (2 * j) (omega arith)) in
    let odd = passed w32 8 c.products-2.result _ c.products-2.type_inv j h ∙ c.products-2.ensures.value j h
    ∙ product_same _ _ _ _ (c.odds.ensures j h) (passed w8 8 c.odd_weights.result _ c.odd_weights.type_inv j h ∙ c.odd_weights.ensures j h ∙ passed w8 16 c.args.w _ c.well_formed.1.0 (2 * j + 1) (omega arith)) in
    let fits = c.requires j h in
    passed w16 8 c.short.result _ c.short.type_inv j h ∙ c.short.ensures j h
    ∙ ap (λ (z : ℤ). int_min (pos 32767) (int_max (negsuc 32767) z)) (passed w32 8 c.added.result _ c.added.type_inv j h ∙ c.added.ensures j h ∙ sum_same _ _ _ _ even odd)
    ∙ held_same _ fits.0 fits.1
