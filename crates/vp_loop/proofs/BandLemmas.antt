-- What holds of the line steps of a macroblock, one by one, holds of the macroblock.
use Rattle.std.proofs.Common.{◌≡◌, ℕ, zero, suc, ◌+◌, ◌-◌, ◌*◌, ◌/◌, ◌<◌, ◌≤◌, nat_lt, Bool, true, false, cond, Option, Some, None, refl, arith}
use Rattle.std.proofs.lemmas.Bool.Decides.{nat_tests}
use Rattle.vp_base.specs.Raster.{Raster}
use Rattle.vp_base.specs.Over.{over}
use Rattle.vp_loop.specs.declared.edges.Orientation.{Orientation}
use Rattle.vp_loop.specs.declared.edges.Orientation.TheVariants.{Vertical, Horizontal}
use Rattle.vp_loop.specs.declared.lines.LineStep.{LineStep}
use Rattle.vp_loop.specs.declared.limits.EdgeLimits.{EdgeLimits}
use Rattle.vp_loop.specs.Edges.{pick, line_step, edge_lines, subblock_edges, macroblock_step, subblock_step, macroblock_edge, edges_inside, block_edges, block_filtered}

-- n lines that end before column right and row bottom, and begin at row top at the earliest, or down columns four rows above
pub record IsInBand (right top bottom : ℕ) (orientation : Orientation) (n x y : ℕ) : Type 0 where
  pub columns : x + pick orientation 8 n ≤ right
  pub rows : y + pick orientation n 8 ≤ bottom
  pub begins : top ≤ y + pick orientation 0 4

-- a macroblock of so many pixels each way in that band
pub record IsBlockIn (right top bottom size x y : ℕ) : Type 0 where
  pub big : 8 ≤ size
  pub left : 0 < x → 4 ≤ x
  pub high : 0 < y → 4 ≤ y
  pub columns : x + size ≤ right
  pub rows : y + size ≤ bottom
  pub begins : top ≤ y

module _ (right top bottom : ℕ) where
  line_in : (orientation : Orientation) (n x y m : ℕ) → IsInBand right top bottom orientation n x y → m < n
      → IsInBand right top bottom orientation 1 (pick orientation x (x + m)) (pick orientation (y + m) y)
  line_in orientation n x y m fits below = record { columns = grind arith; rows = grind arith; begins = grind arith }

  inner_in : (orientation : Orientation) (size x y i : ℕ) → IsBlockIn right top bottom size x y → i < size / 4 - 1
      → IsInBand right top bottom orientation size (pick orientation (x + 4 * i) x) (pick orientation y (y + 4 * i))
  inner_in orientation size x y i fits below = record { columns = grind arith; rows = grind arith; begins = grind arith }

  own_in : (orientation : Orientation) (size x y : ℕ) → IsBlockIn right top bottom size x y → nat_lt 0 (pick orientation x y) ≡ true
      → IsInBand right top bottom orientation size (pick orientation (x - 4) x) (pick orientation y (y - 4))
  own_in orientation size x y fits e =
      let left = fits.left in
      let high = fits.high in
      record { columns = grind (arith, nat_tests); rows = grind (arith, nat_tests); begins = grind (arith, nat_tests) }

module _ (P : (Raster → Raster) → Type 0) (same : P (λ p. p)) (next : (f g : Raster → Raster) → P f → P g → P (λ p. g (f p))) where
  pub holds-over : (n : ℕ) (f : ℕ → Raster → Raster) → ((m : ℕ) → m < n → P (f m)) → P (λ p. over n f p)
  unfolding over
  holds-over zero f each = same
  holds-over (suc n) f each =
      next (λ p. over n f p) (f n) (holds-over n f (λ m below. each m (let i : m < suc n = omega arith in i))) (each n (omega arith))

  holds-when : (b : Bool) (f : Raster → Raster) → (b ≡ true → P f) → P (λ p. cond b (f p) p)
  holds-when true f a = a refl
  holds-when false f a = same

  module _ (right top bottom : ℕ) (line : (orientation : Orientation) (step : LineStep) (x y : ℕ) → IsInBand right top bottom orientation 1 x y → P (λ p. line_step orientation step x y p)) where
    holds-lines : (orientation : Orientation) (step : LineStep) (n x y : ℕ) → IsInBand right top bottom orientation n x y → P (λ p. edge_lines orientation step n x y p)
    unfolding edge_lines
    holds-lines orientation step n x y fits =
        holds-over n (λ k. line_step orientation step (pick orientation x (x + k)) (pick orientation (y + k) y))
        (λ m below. line orientation step (pick orientation x (x + m)) (pick orientation (y + m) y) (line_in right top bottom orientation n x y m fits below))

    holds-inner : (orientation : Orientation) (step : LineStep) (size x y : ℕ) → IsBlockIn right top bottom size x y → P (λ p. subblock_edges orientation step size x y p)
    unfolding subblock_edges
    holds-inner orientation step size x y fits =
        holds-over (size / 4 - 1) (λ i. edge_lines orientation step size (pick orientation (x + 4 * i) x) (pick orientation y (y + 4 * i)))
        (λ i below. holds-lines orientation step size (pick orientation (x + 4 * i) x) (pick orientation y (y + 4 * i)) (inner_in right top bottom orientation size x y i fits below))

    holds-edges : (orientation : Orientation) (size : ℕ) (limits : EdgeLimits) (x y : ℕ) → IsBlockIn right top bottom size x y → P (λ p. block_edges orientation size limits x y p)
    unfolding block_edges
    holds-edges orientation size limits x y fits =
        next (λ p. macroblock_edge orientation (macroblock_step limits) size x y p) (λ p. edges_inside orientation limits size x y p)
        (holds-when (nat_lt 0 (pick orientation x y)) (edge_lines orientation (macroblock_step limits) size (pick orientation (x - 4) x) (pick orientation y (y - 4)))
        (λ e. holds-lines orientation (macroblock_step limits) size (pick orientation (x - 4) x) (pick orientation y (y - 4)) (own_in right top bottom orientation size x y fits e)))
        (inside limits.subblock)
      where
        inside : (inner : Option ℕ) → P (λ p. edges_inside orientation (record limits { subblock = inner }) size x y p)
        inside None = same
        inside (Some limit) = holds-inner orientation (subblock_step limits limit) size x y fits

    pub holds-block : (size : ℕ) (limits : Option EdgeLimits) (x y : ℕ) → IsBlockIn right top bottom size x y → P (λ p. block_filtered size limits x y p)
    unfolding block_filtered
    holds-block size None x y fits = same
    holds-block size (Some limits) x y fits =
        next (λ p. block_edges Vertical size limits x y p) (λ p. block_edges Horizontal size limits x y p)
        (holds-edges Vertical size limits x y fits) (holds-edges Horizontal size limits x y fits)
