-- The laws of the loop filter (RFC 6386, chapter 15.1): which steps commute, which rows a step reads and changes, and
-- filtering by planes or by edges.
use Rattle.std.specs.Prelude.{ℕ, ◌≡◌, ◌+◌, ◌-◌, ◌*◌, ◌≤◌, ◌<◌, Bool, ◌&&◌, Option, Some, None}
use Rattle.vp_base.specs.declared.place.Place.{Place}
use Rattle.vp_base.specs.Raster.{Raster}
use Rattle.vp_base.specs.Block.{is_in_block, with_block, IsWhole}
use Rattle.vp_base.specs.Image.{Image, macroblocks, IsAligned, AreWhole}
use Rattle.vp_base.specs.Rows.{AreSameAbove, AreSameFrom, AreOneSize}
use Rattle.vp_loop.specs.declared.lines.LineStep.{LineStep}
use Rattle.vp_loop.specs.declared.edges.Orientation.{Orientation}
use Rattle.vp_loop.specs.declared.edges.Orientation.TheVariants.{Vertical, Horizontal}
use Rattle.vp_loop.specs.declared.limits.EdgeLimits.{EdgeLimits}
use Rattle.vp_loop.specs.declared.limits.FilterKind.{FilterKind}
use Rattle.vp_loop.specs.declared.limits.FilterKind.TheVariants as filter_is
use Rattle.vp_loop.specs.declared.strength.Level.{Level}
use Rattle.vp_loop.specs.LineSteps.{stepped}
use Rattle.vp_loop.specs.Edges.{line_at, pixel_at, line_step, edge_lines}
use Rattle.vp_loop.specs.Edges.{pick, edge_limits, macroblock_step, macroblock_edge, edges_inside, on_plane}
use Rattle.vp_loop.specs.Filtered.{macroblock_filtered, row_filtered}

-- the number of columns and rows of a line
abbrev pub columns_of : Orientation → ℕ
columns_of orientation = pick orientation 8 1

abbrev pub rows_of : Orientation → ℕ
rows_of orientation = pick orientation 1 8

-- a line of a plane: the orientation of the edge that it crosses, and the column and row at which it begins
pub record PlaneLine : Type 0 where
  pub orientation : Orientation
  pub x : ℕ
  pub y : ℕ

-- whether the pixel at column i of row j is one of the line's eight
abbrev pub has_pixel : PlaneLine → ℕ → ℕ → Bool
has_pixel l i j = is_in_block l.x l.y (columns_of l.orientation) (rows_of l.orientation) i j

-- the line is inside the plane
abbrev pub IsLineWithin : PlaneLine → Raster → Type 0
IsLineWithin l p = (l.x + columns_of l.orientation ≤ p.width) × (l.y + rows_of l.orientation ≤ p.height)

-- no pixel is in both lines
abbrev pub SharesNoPixel : PlaneLine → PlaneLine → Type 0
SharesNoPixel l m = (i j : ℕ) → (has_pixel l i j && has_pixel m i j) ≡ Bool.false

-- one line step
abbrev pub step_of : LineStep → PlaneLine → Raster → Raster
step_of step l p = line_step l.orientation step l.x l.y p

-- Line steps that share no pixel commute.
abbrev pub DisjointStepsCommute : Type 0
DisjointStepsCommute =
    (p : Raster) (l m : PlaneLine) (a b : LineStep) → IsLineWithin l p → IsLineWithin m p → SharesNoPixel l m
    → step_of b m (step_of a l p) ≡ step_of a l (step_of b m p)

-- ---- A row of macroblocks

-- Filtering a row of macroblocks changes nothing below the row.
abbrev pub RowKeepsBelow : Type 0
RowKeepsBelow =
    (level : Place → Level) (row : ℕ) (p : Image) → IsAligned p → row < macroblocks p.height
    → AreSameFrom (16 * (row + 1)) (8 * (row + 1)) (row_filtered level row p) p

-- Its result above does not depend on the pixels below.
abbrev pub RowReadsAbove : Type 0
RowReadsAbove =
    (level : Place → Level) (row : ℕ) (p q : Image) → IsAligned p → IsAligned q → AreOneSize p q
    → row < macroblocks p.height
    → AreSameAbove (16 * (row + 1)) (8 * (row + 1)) p q
    → AreSameAbove (16 * (row + 1)) (8 * (row + 1)) (row_filtered level row p) (row_filtered level row q)

-- It changes nothing above the last three rows of pixels before its own.
abbrev pub RowKeepsAbove : Type 0
RowKeepsAbove =
    (level : Place → Level) (row : ℕ) (p : Image) → IsAligned p → row < macroblocks p.height
    → AreSameAbove (16 * row - 3) (8 * row - 3) (row_filtered level row p) p

-- Filtering keeps a picture's size, and the sizes of its planes.
abbrev pub RowKeepsSize : Type 0
RowKeepsSize = (level : Place → Level) (row : ℕ) (p : Image) → AreOneSize (row_filtered level row p) p

-- Planes of whole macroblocks stay planes of whole macroblocks.
abbrev pub RowKeepsAligned : Type 0
RowKeepsAligned = (level : Place → Level) (row : ℕ) (p : Image) → IsAligned p → IsAligned (row_filtered level row p)

-- Each plane still has exactly one number for each pixel.
abbrev pub RowKeepsWhole : Type 0
RowKeepsWhole = (level : Place → Level) (row : ℕ) (p : Image) → AreWhole p → AreWhole (row_filtered level row p)

-- ---- Plane by plane, or edge by edge

-- Steps on two different planes commute.
abbrev pub PlanesCommute : Type 0
PlanesCommute =
    (j k : ℕ) (f g : Raster → Raster) (p : Image) → j < 3 → k < 3 → ¬ (j ≡ k)
    → on_plane j f (on_plane k g p) ≡ on_plane k g (on_plane j f p)

-- f applied to a macroblock's luma and, except in the simple filter, to both chroma planes
abbrev pub in_planes : FilterKind → (ℕ → ℕ → ℕ → Raster → Raster) → ℕ → ℕ → Image → Image
in_planes filter_is.Simple f column row p = record p { luma = f 16 (16 * column) (16 * row) p.luma }
in_planes filter_is.Normal f column row p = record p {
  luma = f 16 (16 * column) (16 * row) p.luma;
  u = f 8 (8 * column) (8 * row) p.u;
  v = f 8 (8 * column) (8 * row) p.v;
}

-- a macroblock filtered in the order of chapter 15.1: for all planes the left edge, the vertical edges inside, the top
-- edge, then the horizontal edges inside
abbrev pub filtered_by_edges : Option EdgeLimits → ℕ → ℕ → Image → Image
filtered_by_edges None column row p = p
filtered_by_edges (Some limits) column row p =
    in_planes limits.kind (edges_inside Horizontal limits) column row
    (in_planes limits.kind (macroblock_edge Horizontal (macroblock_step limits)) column row
    (in_planes limits.kind (edges_inside Vertical limits) column row
    (in_planes limits.kind (macroblock_edge Vertical (macroblock_step limits)) column row p)))

-- Filtering edge by edge gives the same result as plane by plane.
abbrev pub EdgeByEdge : Type 0
EdgeByEdge =
    (level : Level) (column row : ℕ) (p : Image)
    → filtered_by_edges (edge_limits level) column row p ≡ macroblock_filtered level column row p

-- The lines of an edge may be filtered at once, each from the plane before any of them.
abbrev pub EdgesAtOnce : Type 0
EdgesAtOnce =
    (step : LineStep) (n x y : ℕ) (p : Raster) → IsWhole p
    → (x + 8 ≤ p.width → y + n ≤ p.height
    → edge_lines Vertical step n x y p ≡ with_block p x y 8 n (λ r c. pixel_at
    (stepped step (line_at Vertical p x (y + r))) c))
    × (x + n ≤ p.width → y + 8 ≤ p.height
    → edge_lines Horizontal step n x y p ≡ with_block p x y n 8 (λ r c. pixel_at
    (stepped step (line_at Horizontal p (x + c) y)) r))
