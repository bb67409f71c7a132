-- Line steps on a plane.
use Rattle.std.proofs.Common.{◌≡◌, ◌∙◌, ℕ, zero, suc, ◌+◌, ◌-◌, ◌<◌, ◌≤◌, Bool, true, false, cond, refl, ap, sym, arith, ◌&&◌}
use Rattle.std.proofs.lemmas.Bool.Decides.{nat_tests}
use Rattle.vp_base.specs.Raster.{Raster, pixel}
use Rattle.vp_base.specs.Block.{with_block, is_in_block, IsWhole}
use Rattle.vp_base.specs.Over.{over}
use Rattle.vp_base.proofs.BlockLemmas.{pixel-with_block, IsWhole-with_block, same_raster}
use Rattle.vp_loop.specs.declared.edges.Orientation.{Orientation}
use Rattle.vp_loop.specs.declared.edges.Orientation.TheVariants.{Vertical, Horizontal}
use Rattle.vp_loop.specs.declared.lines.Line.{Line}
use Rattle.vp_loop.specs.declared.lines.LineStep.{LineStep}
use Rattle.vp_loop.specs.declared.lines.EdgeKind.{EdgeKind}
use Rattle.vp_loop.specs.declared.lines.EdgeKind.TheVariants.{Simple, Subblock, Macroblock}
use Rattle.vp_loop.specs.LineSteps.{is_small_step, is_smooth, is_high, common_adjusted, subblock_edge_filtered, macroblock_edge_filtered, stepped}
use Rattle.vp_loop.specs.Edges.{pick, line_at, pixel_at, line_step, edge_lines}
use Rattle.vp_loop.specs.Lanes.{own_line, IsEdgeIn}
use Rattle.vp_loop.specs.Laws.{columns_of, rows_of}
use Rattle.vp_loop.proofs.TransposeLemmas.{below_eight, line_from-same}

-- ---- a line by its pixels

pub pixel_at-line_at : (orientation : Orientation) (p : Raster) (x y k : ℕ) → k < 8 → pixel_at (line_at orientation p x y) k ≡ pixel p (pick orientation (x + k) x) (pick orientation y (y + k))
unfolding line_at
pixel_at-line_at orientation p x y =
    below_eight (λ k. pixel_at (line_at orientation p x y) k ≡ pixel p (pick orientation (x + k) x) (pick orientation y (y + k))) refl refl refl refl refl refl refl refl

-- a line lies within a plane
abbrev pub Within : Orientation → ℕ → ℕ → Raster → Type 0
Within orientation x y p = (x + columns_of orientation ≤ p.width) × (y + rows_of orientation ≤ p.height)

-- where pixel k of a line is
in_line : (orientation : Orientation) (x y k : ℕ) → k < 8 → is_in_block x y (columns_of orientation) (rows_of orientation) (pick orientation (x + k) x) (pick orientation y (y + k)) ≡ true
in_line orientation x y k h = grind (arith, nat_tests)

in_plane : (orientation : Orientation) (x y k : ℕ) (p : Raster) → k < 8 → Within orientation x y p → (pick orientation (x + k) x < p.width) × (pick orientation y (y + k) < p.height)
in_plane orientation x y k p h fits = let columns = fits.0 in let rows = fits.1 in (grind arith, grind arith)

-- two planes of one size that agree on a line's pixels have that line
pub line_at-same : (orientation : Orientation) (p q : Raster) (x y : ℕ) → Within orientation x y p
    → ((i j : ℕ) → i < p.width → j < p.height → is_in_block x y (columns_of orientation) (rows_of orientation) i j ≡ true → pixel p i j ≡ pixel q i j)
    → line_at orientation p x y ≡ line_at orientation q x y
unfolding line_at
line_at-same orientation p q x y fits same =
    line_from-same (λ k. pixel p (pick orientation (x + k) x) (pick orientation y (y + k))) (λ k. pixel q (pick orientation (x + k) x) (pick orientation y (y + k))) (λ k h.
    let inside = in_plane orientation x y k p h fits in
    same (pick orientation (x + k) x) (pick orientation y (y + k)) inside.0 inside.1 (in_line orientation x y k h))

pub pixel-line_step : (orientation : Orientation) (step : LineStep) (x y : ℕ) (p : Raster) (i j : ℕ) → i < p.width → j < p.height
    → pixel (line_step orientation step x y p) i j
    ≡ cond (is_in_block x y (columns_of orientation) (rows_of orientation) i j) (pixel_at (stepped step (line_at orientation p x y)) (pick orientation (i - x) (j - y))) (pixel p i j)
pixel-line_step orientation step x y p i j iin jin =
    pixel-with_block p x y (columns_of orientation) (rows_of orientation) (λ r c. pixel_at (stepped step (line_at orientation p x y)) (pick orientation c r)) i j iin jin

pub IsWhole-line_step : (orientation : Orientation) (step : LineStep) (x y : ℕ) (p : Raster) → IsWhole (line_step orientation step x y p)
IsWhole-line_step orientation step x y p = IsWhole-with_block p x y (columns_of orientation) (rows_of orientation) (λ r c. pixel_at (stepped step (line_at orientation p x y)) (pick orientation c r))

-- ---- the lines of an edge

-- ---- the block of an edge: its columns and rows, and the line at row r and column c of it

in_none : (orientation : Orientation) (x y i j : ℕ) → is_in_block x y (pick orientation 8 0) (pick orientation 0 8) i j ≡ false
in_none orientation x y i j = grind (arith, nat_tests)

in_last : (orientation : Orientation) (x y n i j : ℕ) → is_in_block (pick orientation x (x + n)) (pick orientation (y + n) y) (columns_of orientation) (rows_of orientation) i j ≡ true
    → (is_in_block x y (pick orientation 8 (suc n)) (pick orientation (suc n) 8) i j ≡ true) × (is_in_block x y (pick orientation 8 n) (pick orientation n 8) i j ≡ false)
    × (n ≡ pick orientation (j - y) (i - x)) × (pick orientation (i - pick orientation x (x + n)) (j - pick orientation (y + n) y) ≡ pick orientation (i - x) (j - y))
in_last Vertical x y n i j e = grind (arith, nat_tests)
in_last Horizontal x y n i j e = grind (arith, nat_tests)

in_other : (orientation : Orientation) (x y n i j : ℕ) → is_in_block (pick orientation x (x + n)) (pick orientation (y + n) y) (columns_of orientation) (rows_of orientation) i j ≡ false
    → is_in_block x y (pick orientation 8 n) (pick orientation n 8) i j ≡ is_in_block x y (pick orientation 8 (suc n)) (pick orientation (suc n) 8) i j
in_other Vertical x y n i j e = grind (arith, nat_tests)
in_other Horizontal x y n i j e = grind (arith, nat_tests)

fits_more : (orientation : Orientation) (n x y : ℕ) (p : Raster) → IsEdgeIn orientation (suc n) x y p
    → IsEdgeIn orientation n x y p × Within orientation (pick orientation x (x + n)) (pick orientation (y + n) y) p
fits_more orientation n x y p fits = let columns = fits.0 in let rows = fits.1 in ((grind arith, grind arith), (grind arith, grind arith))

module _ (orientation : Orientation) (step : LineStep) (x y : ℕ) (p : Raster) where
  -- the filtered pixel at row r and column c of the block
  abbrev pub edge_pixel : ℕ → ℕ → ℕ
  edge_pixel r c = pixel_at (stepped step (own_line orientation p x y (pick orientation r c))) (pick orientation c r)

  abbrev first_lines : ℕ → Raster
  first_lines n = with_block p x y (pick orientation 8 n) (pick orientation n 8) edge_pixel

  pixel-first_lines : (n i j : ℕ) → i < p.width → j < p.height
      → pixel (first_lines n) i j ≡ cond (is_in_block x y (pick orientation 8 n) (pick orientation n 8) i j) (edge_pixel (j - y) (i - x)) (pixel p i j)
  pixel-first_lines n = pixel-with_block p x y (pick orientation 8 n) (pick orientation n 8) edge_pixel

  IsWhole-first_lines : (n : ℕ) → IsWhole (first_lines n)
  IsWhole-first_lines n = IsWhole-with_block p x y (pick orientation 8 n) (pick orientation n 8) edge_pixel

  module _ (n : ℕ) (fits : IsEdgeIn orientation (suc n) x y p) where
    abbrev lx : ℕ
    lx = pick orientation x (x + n)

    abbrev ly : ℕ
    ly = pick orientation (y + n) y

    more_pixel : (i j : ℕ) → i < p.width → j < p.height → (t : Bool) → is_in_block lx ly (columns_of orientation) (rows_of orientation) i j ≡ t
        → cond t (pixel_at (stepped step (line_at orientation (first_lines n) lx ly)) (pick orientation (i - lx) (j - ly))) (pixel (first_lines n) i j)
        ≡ cond (is_in_block x y (pick orientation 8 (suc n)) (pick orientation (suc n) 8) i j) (edge_pixel (j - y) (i - x)) (pixel p i j)
    more_pixel i j iin jin true e =
        let here = in_last orientation x y n i j e in
        let own : line_at orientation (first_lines n) lx ly ≡ own_line orientation p x y n =
        line_at-same orientation (first_lines n) p lx ly (fits_more orientation n x y p fits).1 (λ u v uin vin within.
        pixel-first_lines n u v uin vin ∙ ap (λ (t : Bool). cond t (edge_pixel (v - y) (u - x)) (pixel p u v)) (in_last orientation x y n u v within).1) in
        ap (λ (l : Line). pixel_at (stepped step l) (pick orientation (i - lx) (j - ly))) own
        ∙ (ap (λ (k : ℕ). pixel_at (stepped step (own_line orientation p x y n)) k) here.3
        ∙ (ap (λ (k : ℕ). pixel_at (stepped step (own_line orientation p x y k)) (pick orientation (i - x) (j - y))) here.2
        ∙ ap (λ (t : Bool). cond t (edge_pixel (j - y) (i - x)) (pixel p i j)) (sym here.0)))
    more_pixel i j iin jin false e =
        pixel-first_lines n i j iin jin ∙ ap (λ (t : Bool). cond t (edge_pixel (j - y) (i - x)) (pixel p i j)) (in_other orientation x y n i j e)

    more_lines : line_step orientation step lx ly (first_lines n) ≡ first_lines (suc n)
    more_lines =
        same_raster (line_step orientation step lx ly (first_lines n)) (first_lines (suc n)) refl refl (IsWhole-line_step orientation step lx ly (first_lines n)) (IsWhole-first_lines (suc n)) (λ i j iin jin.
        pixel-line_step orientation step lx ly (first_lines n) i j iin jin
        ∙ (more_pixel i j iin jin (is_in_block lx ly (columns_of orientation) (rows_of orientation) i j) refl ∙ sym (pixel-first_lines (suc n) i j iin jin)))

  -- the lines of an edge at once
  pub at_once : (n : ℕ) → IsWhole p → IsEdgeIn orientation n x y p → edge_lines orientation step n x y p ≡ with_block p x y (pick orientation 8 n) (pick orientation n 8) edge_pixel
  unfolding edge_lines over
  at_once zero whole fits =
      sym (same_raster (first_lines 0) p refl refl (IsWhole-first_lines 0) whole (λ i j iin jin.
      pixel-first_lines 0 i j iin jin ∙ ap (λ (t : Bool). cond t (edge_pixel (j - y) (i - x)) (pixel p i j)) (in_none orientation x y i j)))
  at_once (suc n) whole fits =
      ap (line_step orientation step (pick orientation x (x + n)) (pick orientation (y + n) y)) (at_once n whole (fits_more orientation n x y p fits).0) ∙ more_lines n fits

-- ---- no step changes the pixels at the ends of a line

pub cond_both : (P : Line → Type 0) (b : Bool) (l m : Line) → P l → P m → P (cond b l m)
cond_both P true l m here there = here
cond_both P false l m here there = there

-- l has the pixels at the ends of m
abbrev HasEnds : Line → Line → Type 0
HasEnds m l = (l.p3 ≡ m.p3) × (l.q3 ≡ m.q3)

ends_by : (kind : EdgeKind) (limit interior hev : ℕ) (l : Line) → let step : LineStep = record { kind = kind; limit = limit; interior = interior; hev = hev } in
    HasEnds l (stepped step l)
unfolding stepped
ends_by Simple limit interior hev l = cond_both (HasEnds l) (is_small_step limit l) (common_adjusted true l) l (refl, refl) (refl, refl)
ends_by Subblock limit interior hev l =
    cond_both (HasEnds l) (is_small_step limit l && is_smooth interior l) (subblock_edge_filtered (is_high hev l) l) l (refl, refl) (refl, refl)
ends_by Macroblock limit interior hev l =
    cond_both (HasEnds l) (is_small_step limit l && is_smooth interior l) (macroblock_edge_filtered (is_high hev l) l) l
    (cond_both (HasEnds l) (is_high hev l) (common_adjusted true l) _ (refl, refl) (refl, refl)) (refl, refl)

pub stepped_ends : (step : LineStep) (l : Line) → ((stepped step l).p3 ≡ l.p3) × ((stepped step l).q3 ≡ l.q3)
stepped_ends step l = ends_by step.kind step.limit step.interior step.hev l
