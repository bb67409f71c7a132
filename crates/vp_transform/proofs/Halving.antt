-- Blocks in lanes, from step to step of the forward Walsh-Hadamard transform.
use Rattle.std.proofs.Common.{◌≡◌, ℕ, ◌*◌, ◌^◌, ◌<◌, ℤ, pos, ◌+ℤ◌, List, map, lit<, ap, sym, ◌∙◌, arith}
use Rattle.std.proofs.lemmas.Int.{ints}
use lib.Signed.{shr_z as floor_div}
use Rattle.vp_lanes.specs.Lane.{lane}
use Rattle.vp_transform.specs.Fits.{EachWithin}
use Rattle.vp_transform.specs.Forward.{fwht, times_hadamard_halved}
use Rattle.vp_transform.specs.Narrow.{block_in}
use Rattle.vp_transform.specs.Pair.{transposed}
use Rattle.vp_transform.specs.Steps.{column_product, row_product}
use Rattle.vp_transform.specs.Transform.{element_at, block_from, hadamard_times}
use Rattle.vp_transform.proofs.Along.{rows_along}
use Rattle.vp_transform.proofs.Bounds.{at_most, each-block_of}
use Rattle.vp_transform.proofs.Mixing.{Block, block}
use Rattle.vp_transform.proofs.Signs.{mixed-column, mixed-row}
use Rattle.vp_transform.proofs.Sizes.{AtMost}
use Rattle.vp_transform.proofs.Vectors.{sixteen, handed}
use Rattle.vp_transform.proofs.Waves.{shr_1-at_most}

-- (z + 1) / 2, rounded down
abbrev pub half : ℤ → ℤ
half z = floor_div (z +ℤ pos 1) 2

abbrev pub halves : List ℤ → List ℤ
halves block = block_from (λ r c. half (element_at block r c))

pub rows_halved : (a b c d v0 v1 v2 v3 : List ℤ) → ((j : ℕ) → j < 4 → lane v0 j ≡ half (lane a j)) → ((j : ℕ) → j < 4 → lane v1 j ≡ half (lane b j))
    → ((j : ℕ) → j < 4 → lane v2 j ≡ half (lane c j)) → ((j : ℕ) → j < 4 → lane v3 j ≡ half (lane d j)) → block_in v0 v1 v2 v3 ≡ map (λ z. half z) (block_in a b c d)
rows_halved a b c d v0 v1 v2 v3 e f g h =
    sixteen (e 0 (lit< tt)) (e 1 (lit< tt)) (e 2 (lit< tt)) (e 3 (lit< tt)) (f 0 (lit< tt)) (f 1 (lit< tt)) (f 2 (lit< tt)) (f 3 (lit< tt))
    (g 0 (lit< tt)) (g 1 (lit< tt)) (g 2 (lit< tt)) (g 3 (lit< tt)) (h 0 (lit< tt)) (h 1 (lit< tt)) (h 2 (lit< tt)) (h 3 (lit< tt))

half-at_most : {z : ℤ} {n : ℕ} → AtMost (2 * n) z → AtMost n (half z)
half-at_most {z} {n} h = let s = h.size in record { size = shr_1-at_most (z +ℤ pos 1) n (omega (arith, ints)) (omega (arith, ints)) }

halves-within : (n : ℕ) (v : List ℤ) → EachWithin (2 * n) v → EachWithin n (halves v)
halves-within n v w = each-block_of n (λ r c. half (element_at v r c)) (λ r c. half-at_most (at_most (2 * n) v w _))

pub halved_block : (n : ℕ) {x a b c d : List ℤ} → Block (2 * n) x a b c d → (v0 v1 v2 v3 : List ℤ) → n < 2 ^ 31
    → block_in v0 v1 v2 v3 ≡ map (λ z. half z) (block_in (handed a) (handed b) (handed c) (handed d)) → Block n (halves x) v0 v1 v2 v3
halved_block n {x} h v0 v1 v2 v3 l e = block n l (e ∙ ap (λ v. halves v) h.passed) (halves-within n x h.within)

-- the matrix is symmetric
exchanged : (v : List ℤ) → transposed (halves (hadamard_times (transposed v))) ≡ times_hadamard_halved v
unfolding hadamard_times times_hadamard_halved
exchanged v =
    let row : (r : ℕ) → column_product (transposed v) r ≡ row_product v r → map (λ z. half z) (column_product (transposed v) r) ≡ map (λ z. half z) (row_product v r) =
    λ r e. ap (λ u. map (λ z. half z) u) e in
    rows_along (row 0 (sym (mixed-column (transposed v) 0) ∙ mixed-row v 0)) (row 1 (sym (mixed-column (transposed v) 1) ∙ mixed-row v 1))
    (row 2 (sym (mixed-column (transposed v) 2) ∙ mixed-row v 2)) (row 3 (sym (mixed-column (transposed v) 3) ∙ mixed-row v 3))

-- all steps
pub fwht_in_steps : (x : List ℤ) → transposed (halves (hadamard_times (transposed (hadamard_times (block_from (element_at x)))))) ≡ fwht x
unfolding fwht hadamard_times
fwht_in_steps x = exchanged (hadamard_times (block_from (element_at x)))
