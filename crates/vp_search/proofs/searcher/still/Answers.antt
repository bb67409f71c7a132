use Rattle.std.proofs.Common.{◌≡◌, ◌∙◌, ℕ, pos, ◌+◌, ◌*◌, ◌<◌, ◌≤◌, ◌+ℤ◌, List, get_or, sym, ap, ap₂, subst, arith}
use Rattle.std.proofs.lemmas.Int.{ints}
use Rattle.std.proofs.lemmas.Nat.{row_fits}
use Rattle.vp_base.specs.Raster.{Raster}
use Rattle.vp_base.specs.declared.place.Place.{Place}
use Rattle.vp_inter.specs.Inter.{reference_pixel}
use Rattle.vp_inter.proofs.PassLemmas.{inside_pixel}
use Rattle.vp_search.specs.declared.vector.WholeVector.{WholeVector}
use Rattle.vp_search.specs.Differences.{sum_of_differences, strided_block, block16}
use Rattle.vp_search.specs.Blocks.{moved_block, whole_cost}
use Rattle.vp_search.specs.Least.{IsLeast}
use Rattle.vp_search.proofs.SumLemmas.{sum_of_differences-same}
use Rattle.vp_search.proofs.WindowLemmas.{quarter_cost-whole}
use Rattle.vp_search.proofs.searcher.still.Goals as goal
use Rattle.vp_search.proofs.searcher.still.Goals.{Else-cost-gt0}

abbrev zero_vector : WholeVector
zero_vector = record { row = pos 0; column = pos 0 }

-- the block at its own place in the plane
own_pixel : (p : Raster) (place : Place) (r c : ℕ) → 16 * place.column + 16 ≤ p.width → 16 * place.row + 16 ≤ p.height → r < 16 → c < 16
    → strided_block p.pixels (16 * place.row * p.width + 16 * place.column) p.width r c ≡ moved_block p place zero_vector r c
own_pixel p place r c wide high rin cin =
    let at : 16 * place.row * p.width + 16 * place.column + r * p.width + c ≡ (16 * place.row + r) * p.width + (16 * place.column + c) = omega arith in
    let still : (n : ℕ) → pos n ≡ pos n +ℤ pos 0 = λ n. omega (arith, ints) in
    ap (λ (k : ℕ). get_or p.pixels k 0) at
    ∙ sym (inside_pixel p (16 * place.column + c) (16 * place.row + r) (omega arith) (omega arith))
    ∙ ap₂ (reference_pixel p) (still (16 * place.column + c)) (still (16 * place.row + r))

-- so the zero vector's cost is their difference
own_cost : (block pixels : List ℕ) (width : ℕ) (p : Raster) (place : Place) → pixels ≡ p.pixels → width ≡ p.width → 16 * place.column + 16 ≤ p.width → 16 * place.row + 16 ≤ p.height
    → sum_of_differences 16 16 (strided_block block 0 16) (strided_block pixels (16 * place.row * width + 16 * place.column) width) ≡ whole_cost (block16 block) p place zero_vector
unfolding whole_cost
own_cost block pixels width p place e f wide high =
    ap₂ (λ (xs : List ℕ) (w : ℕ). sum_of_differences 16 16 (strided_block block 0 16) (strided_block xs (16 * place.row * w + 16 * place.column) w)) e f
    ∙ sum_of_differences-same 16 16 (strided_block block 0 16) (block16 block) (strided_block p.pixels (16 * place.row * p.width + 16 * place.column) p.width) (moved_block p place zero_vector)
    (λ r c h k. let e : 0 + r * 16 + c ≡ r * 16 + c = omega arith in ap (λ (i : ℕ). get_or block i 0) e)
    (λ r c h k. own_pixel p place r c wide high h k)

-- a zero vector that costs nothing is the best
free_is_least : (cost : WholeVector → ℕ) (range : ℕ) → cost zero_vector ≡ 0 → IsLeast range cost zero_vector
free_is_least cost range free = record {
  near = (omega (arith, ints), omega (arith, ints));
  least = λ v near. record {
    by_cost = omega (arith, free);
    by_size = λ _. omega (arith, ints);
    by_row = λ _ size. omega (arith, ints);
    by_column = λ _ size _. omega (arith, ints);
  };
}

pub sad_up_to-cost-requires : goal.sad_up_to-cost-requires
sad_up_to-cost-requires c =
    let p : Raster = c.args.reference.now in let w : ℕ = c.width-width.result in
    let long = c.pixels-pixels.ensures.len ∙ ap (λ (n : ℕ). p.height * n) (sym c.width-width.ensures.value) in
    omega (arith, long, row_fits (16 * c.args.place.row + 15) w p.height w (omega arith) (omega arith))

-- what was computed is its cost
free : (c : Else-cost-gt0) → whole_cost (block16 c.args.block.now) c.args.reference.now c.args.place zero_vector ≡ 0
free c =
    rw (← c.of.ensures)
    (sym (own_cost c.of.result c.pixels-pixels.result.now c.width-width.result c.args.reference.now c.args.place c.pixels-pixels.ensures.value c.width-width.ensures.value
    (omega (arith, c.width-width.ensures.value)) (omega (arith, c.height-height.ensures.value)))
    ∙ omega arith)

pub returns-clause-cost : goal.returns-clause-cost
returns-clause-cost c = omega (arith, free c)

pub returns-clause-least : goal.returns-clause-least
returns-clause-least c range = free_is_least (whole_cost (block16 c.args.block.now) c.args.reference.now c.args.place) range (free c)

pub returns-clause-predicted : goal.returns-clause-predicted
returns-clause-predicted c =
    let p : Raster = c.args.reference.now in
    returns-clause-cost c
    ∙ quarter_cost-whole (block16 c.args.block.now) p c.args.place zero_vector
    (λ r k h i. subst (λ (n : ℕ). n ≤ 255) (own_pixel p c.args.place r k (omega (arith, c.width-width.ensures.value)) (omega (arith, c.height-height.ensures.value)) h i)
    (rw (← c.pixels-pixels.ensures.value) (c.sad_up_to-cost.ensures.bytes _)))
