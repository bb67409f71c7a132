use Rattle.std.proofs.Common.{◌≡◌, ◌∙◌, ◌+◌, ◌*◌, ◌<◌, ◌≤◌, ◌++◌, ℕ, ℤ, pos, ◌*ℤ◌, List, [], ◌∷◌, Option, Some, None, lit<, sym, ap, subst, w16, unsigned_abs, slice_index_or, arith}
use Rattle.std.proofs.lemmas.Bool.{false≢true}
use Rattle.vp_lanes.specs.Lane.{lane}
use Rattle.vp_lanes.proofs.Shape.{signed_lanes}
use Rattle.vp_quant.proofs.Products.{products, products_within, turns_handed, handed_short, left_are, right_are, small_below, turns_below, left_within, right_within, coefficients_within, rows_within}
use Rattle.vp_quant.proofs.Sixteen.{read, whole}
use Rattle.vp_quant.specs.Short.{IsShortFactor, HasBlock, Four, in_raster, after_dcs, by_turns, coefficients_after}
use Rattle.vp_quant.proofs.short.ShortFactor.coefficients_of_two.Goals as goal

pub sizes-first_sizes-requires : goal.sizes-first_sizes-requires
sizes-first_sizes-requires c = (lit< tt, (lit< tt, λ j h. handed_short c.args.left c.args.right c.requires.left c.requires.right 0 c.alternated.result.0 c.alternated.ensures.upper j))

pub sizes-last_sizes-requires : goal.sizes-last_sizes-requires
sizes-last_sizes-requires c = (lit< tt, (lit< tt, λ j h. handed_short c.args.left c.args.right c.requires.left c.requires.right 8 c.alternated.result.1 c.alternated.ensures.lower j))

abbrev inside : Four → Option Four → Four
inside rows None = rows
inside rows (Some v) = v

module _ (c : goal.After-placed_rows) where
  abbrev left : List ℤ
  left = c.args.left

  abbrev right : List ℤ
  right = c.args.right

  abbrev dcs : List ℤ
  dcs = c.args.dcs

  upper_below : (j : ℕ) → j < 16 → unsigned_abs (lane (read c.alternated.result.0) j) < c.args.self.now.bound
  upper_below j h = omega (arith, c.sizes-first_sizes.ensures j h, c.larger.ensures j h, c.are_below.ensures.below c.if-are_below.true j h)

  lower_below : (j : ℕ) → j < 16 → unsigned_abs (lane (read c.alternated.result.1) j) < c.args.self.now.bound
  lower_below j h = omega (arith, c.sizes-last_sizes.ensures j h, c.larger.ensures j h, c.are_below.ensures.below c.if-are_below.true j h)

  upper_read : read c.alternated.result.0 ≡ by_turns left right 0
  upper_read = turns_handed left right c.requires.left c.requires.right 0 c.alternated.result.0 c.alternated.ensures.upper

  lower_read : read c.alternated.result.1 ≡ by_turns left right 8
  lower_read = turns_handed left right c.requires.left c.requires.right 8 c.alternated.result.1 c.alternated.ensures.lower

  begun : read c.with_dcs-upper.result ≡ after_dcs 2 dcs c.times.result
  begun =
      whole 16 c.with_dcs-upper.result _ c.with_dcs-upper.type_inv ∙ c.with_dcs-upper.ensures
      ∙ ap (λ (x : List ℤ). after_dcs 2 dcs x) (whole 16 c.times.result _ c.times.type_inv)

  module _ (v : Four) (e : Some c.placed_rows.result ≡ Some v) (factor most : ℕ) (is : IsShortFactor c.args.self.now factor most) where
    upper_products : (j : ℕ) → j < 16 → lane c.times.result j ≡ lane (by_turns left right 0) j *ℤ pos factor
    upper_products = products 16 c.args.self.now (read c.alternated.result.0) (by_turns left right 0) upper_read upper_below factor most is c.times.result c.times.ensures

    lower_products : (j : ℕ) → j < 16 → lane c.times-lower.result j ≡ lane (by_turns left right 8) j *ℤ pos factor
    lower_products = products 16 c.args.self.now (read c.alternated.result.1) (by_turns left right 8) lower_read lower_below factor most is c.times-lower.result c.times-lower.ensures

    rows : v ≡ c.placed_rows.result
    rows = sym (ap (inside v) e)

    in_turn : (k : ℕ) → in_raster (λ p. lane (read c.with_dcs-upper.result ++ read c.times-lower.result) (2 * p + k)) ≡ in_raster (λ p. lane (after_dcs 2 dcs c.times.result ++ c.times-lower.result) (2 * p + k))
    in_turn k =
        ap (λ (x : List ℤ). in_raster (λ p. lane (x ++ read c.times-lower.result) (2 * p + k))) begun
        ∙ ap (λ (x : List ℤ). in_raster (λ p. lane (after_dcs 2 dcs c.times.result ++ x) (2 * p + k))) (whole 16 c.times-lower.result _ c.times-lower.type_inv)

    has_left : HasBlock v 0 (coefficients_after (slice_index_or dcs 0 (pos 0)) left factor)
    has_left =
        subst (λ (x : Four). HasBlock x 0 (coefficients_after (slice_index_or dcs 0 (pos 0)) left factor)) (sym rows)
        (subst (λ (x : List ℤ). HasBlock c.placed_rows.result 0 x) (in_turn 0 ∙ left_are left right dcs c.times.result c.times-lower.result factor upper_products lower_products)
        c.placed_rows.ensures.left)

    has_right : HasBlock v 1 (coefficients_after (slice_index_or dcs 1 (pos 0)) right factor)
    has_right =
        subst (λ (x : Four). HasBlock x 1 (coefficients_after (slice_index_or dcs 1 (pos 0)) right factor)) (sym rows)
        (subst (λ (x : List ℤ). HasBlock c.placed_rows.result 1 x) (in_turn 1 ∙ right_are left right dcs c.times.result c.times-lower.result factor upper_products lower_products)
        c.placed_rows.ensures.right)

    upper_within : (j : ℕ) → j < 16 → unsigned_abs (lane (by_turns left right 0) j *ℤ pos factor) ≤ most
    upper_within = products_within 16 c.args.self.now (read c.alternated.result.0) (by_turns left right 0) upper_read upper_below factor most is

    lower_within : (j : ℕ) → j < 16 → unsigned_abs (lane (by_turns left right 8) j *ℤ pos factor) ≤ most
    lower_within = products_within 16 c.args.self.now (read c.alternated.result.1) (by_turns left right 8) lower_read lower_below factor most is

    are_small : ((i : ℕ) → i < 2 → unsigned_abs (slice_index_or dcs i (pos 0)) ≤ most) → (r j : ℕ) → r < 4 → j < 8
        → unsigned_abs (lane (slice_index_or (v.0 ∷ v.1 ∷ v.2 ∷ v.3 ∷ []) r []) j) ≤ most
    are_small small =
        rows_within v most (coefficients_after (slice_index_or dcs 0 (pos 0)) left factor) (coefficients_after (slice_index_or dcs 1 (pos 0)) right factor) has_left has_right
        (coefficients_within (slice_index_or dcs 0 (pos 0)) left factor most (signed_lanes w16 16 left _ c.well_formed.1.0).0 (left_within left right factor most upper_within lower_within) (small 0 (lit< tt)))
        (coefficients_within (slice_index_or dcs 1 (pos 0)) right factor most (signed_lanes w16 16 right _ c.well_formed.1.1.0).0 (right_within left right factor most upper_within lower_within) (small 1 (lit< tt)))

pub returns-then-are_below-clause-left : goal.returns-then-are_below-clause-left
returns-then-are_below-clause-left c v factor most e is = has_left c v e factor most is

pub returns-then-are_below-clause-right : goal.returns-then-are_below-clause-right
returns-then-are_below-clause-right c v factor most e is = has_right c v e factor most is

pub returns-then-are_below-clause-small : goal.returns-then-are_below-clause-small
returns-then-are_below-clause-small c v factor most e is = are_small c v e factor most is

pub returns-else-are_below-clause-some : goal.returns-else-are_below-clause-some
returns-else-are_below-clause-some c factor most is near_left near_right e =
    let left = c.args.left in
    let right = c.args.right in
    let f = c.args.self.now in
    let turns = turns_below left right f.bound (λ i h. small_below f factor most is (lane left i) (near_left i h))
    (λ i h. small_below f factor most is (lane right i) (near_right i h)) in
    let upper : (j : ℕ) → j < 16 → unsigned_abs (lane (read c.alternated.result.0) j) < f.bound = λ j h.
    subst (λ (v : List ℤ). unsigned_abs (lane v j) < f.bound)
    (sym (turns_handed left right c.requires.left c.requires.right 0 c.alternated.result.0 c.alternated.ensures.upper))
    (turns 0 (omega arith) j h) in
    let lower : (j : ℕ) → j < 16 → unsigned_abs (lane (read c.alternated.result.1) j) < f.bound = λ j h.
    subst (λ (v : List ℤ). unsigned_abs (lane v j) < f.bound)
    (sym (turns_handed left right c.requires.left c.requires.right 8 c.alternated.result.1 c.alternated.ensures.lower))
    (turns 8 (omega arith) j h) in
    let full = c.are_below.ensures.all
    (λ j h. omega (arith, c.sizes-first_sizes.ensures j h, c.sizes-last_sizes.ensures j h, c.larger.ensures j h, upper j h, lower j h)) in
    absurd (false≢true (sym c.if-are_below.false ∙ full))
