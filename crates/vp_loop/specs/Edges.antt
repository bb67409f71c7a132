-- The edges of a macroblock, and the order of the line steps across them (RFC 6386, chapter 15.1). Pinned by the test
-- `filter_two_macroblocks`.
use Rattle.std.specs.Prelude.{ℕ, [], ◌∷◌, ◌+◌, ◌-◌, ◌*◌, ◌/◌, ◌==◌, nat_lt, slice_index, if◌then◌else◌}
use Rattle.std.specs.Prelude.{Option, Some, None}
use Rattle.std.specs.Option.{option_and_then}
use Rattle.vp_base.specs.Raster.{Raster, pixel}
use Rattle.vp_base.specs.Block.{with_block}
use Rattle.vp_base.specs.Image.{Image, plane_of, with_plane}
use Rattle.vp_base.specs.Over.{over}
use Rattle.vp_loop.specs.declared.lines.Line.{Line}
use Rattle.vp_loop.specs.declared.lines.LineStep.{LineStep}
use Rattle.vp_loop.specs.declared.lines.EdgeKind.TheVariants.{Simple, Subblock, Macroblock}
use Rattle.vp_loop.specs.declared.edges.Orientation.{Orientation}
use Rattle.vp_loop.specs.declared.edges.Orientation.TheVariants.{Vertical, Horizontal}
use Rattle.vp_loop.specs.declared.limits.EdgeLimits.{EdgeLimits}
use Rattle.vp_loop.specs.declared.limits.FilterKind.TheVariants as filter_is
use Rattle.vp_loop.specs.declared.strength.Level.{Level}
use Rattle.vp_loop.specs.LineSteps.{stepped}

-- by an edge's orientation: a if it is vertical, with lines in rows, and b if it is horizontal, with lines in columns
abbrev pub pick : Orientation → ℕ → ℕ → ℕ
pick Vertical a b = a
pick Horizontal a b = b

-- the line that has f k as pixel k; 0 is p3, 7 is q3
abbrev pub line_from : (ℕ → ℕ) → Line
line_from f = record { p3 = f 0; p2 = f 1; p1 = f 2; p0 = f 3; q0 = f 4; q1 = f 5; q2 = f 6; q3 = f 7 }

-- the line that begins with p3 at column x of row y
unfoldable pub line_at : Orientation → Raster → ℕ → ℕ → Line
line_at o p x y = line_from (λ k. pixel p (pick o (x + k) x) (pick o y (y + k)))

-- pixel k of a line
abbrev pub pixel_at : Line → ℕ → ℕ
pixel_at l k = slice_index (l.p3 ∷ l.p2 ∷ l.p1 ∷ l.p0 ∷ l.q0 ∷ l.q1 ∷ l.q2 ∷ l.q3 ∷ []) k

-- one line step: the eight pixels of the line are replaced, from the one at column x of row y on
abbrev pub line_step : Orientation → LineStep → ℕ → ℕ → Raster → Raster
line_step o step x y p =
    with_block p x y (pick o 8 1) (pick o 1 8) (λ r c. pixel_at (stepped step (line_at o p x y)) (pick o c r))

-- the steps of the n lines of an edge, by increasing coordinate; the first line begins at column x of row y
unfoldable pub edge_lines : Orientation → LineStep → ℕ → ℕ → ℕ → Raster → Raster
edge_lines o step n x y p = over n (λ k. line_step o step (pick o x (x + k)) (pick o (y + k) y)) p

-- The limits of a macroblock's edges. Here alone a 0 among the numbers of a level has a meaning of its own: as an edge
-- limit, that the macroblock isn't filtered; as an interior limit, the simple filter; as an inner limit, that the edges
-- inside aren't filtered.
abbrev pub edge_limits : Level → Option EdgeLimits
edge_limits level =
    if level.edge == 0 then None
    else Some (record {
      kind = if level.interior == 0 then filter_is.Simple else filter_is.Normal;
      macroblock = level.edge;
      subblock = if level.inner == 0 then None else Some level.inner;
      interior = level.interior;
      hev = level.hev;
    })

-- the limits of the edges in chroma, which the simple filter does not filter
abbrev pub chroma_limits : Option EdgeLimits → Option EdgeLimits
chroma_limits = option_and_then (λ limits. elim limits.kind [ filter_is.Simple ↦ None | filter_is.Normal ↦ Some limits ])

-- the line steps of macroblock edges, and of the subblock edges inside a macroblock
abbrev pub macroblock_step : EdgeLimits → LineStep
macroblock_step limits = record {
  kind = elim limits.kind [ filter_is.Simple ↦ Simple | filter_is.Normal ↦ Macroblock ];
  limit = limits.macroblock;
  interior = limits.interior;
  hev = limits.hev;
}

abbrev pub subblock_step : EdgeLimits → ℕ → LineStep
subblock_step limits limit = record (macroblock_step limits) {
  kind = elim limits.kind [ filter_is.Simple ↦ Simple | filter_is.Normal ↦ Subblock ];
  limit = limit;
}

-- the left or top edge of a macroblock, unless the plane begins there
abbrev pub macroblock_edge : Orientation → LineStep → ℕ → ℕ → ℕ → Raster → Raster
macroblock_edge o step size x y p =
    if nat_lt 0 (pick o x y) then edge_lines o step size (pick o (x - 4) x) (pick o y (y - 4)) p else p

-- the subblock edges of a macroblock of size by size pixels: at 4, 8 and 12 of 16, at 4 of 8
unfoldable pub subblock_edges : Orientation → LineStep → ℕ → ℕ → ℕ → Raster → Raster
subblock_edges o step size x y p =
    over (size / 4 - 1) (λ i. edge_lines o step size (pick o (x + 4 * i) x) (pick o y (y + 4 * i))) p

-- the subblock edges of a macroblock, where they are filtered
abbrev pub edges_inside : Orientation → EdgeLimits → ℕ → ℕ → ℕ → Raster → Raster
edges_inside o limits size x y p =
    elim limits.subblock [ None ↦ p | Some limit ↦ subblock_edges o (subblock_step limits limit) size x y p ]

-- the edges of a macroblock in one direction: its own one, then those inside
unfoldable pub block_edges : Orientation → ℕ → EdgeLimits → ℕ → ℕ → Raster → Raster
block_edges o size limits x y p =
    edges_inside o limits size x y (macroblock_edge o (macroblock_step limits) size x y p)

-- the macroblock whose first pixel is at column x of row y of a plane: vertical edges, then horizontal ones
unfoldable pub block_filtered : ℕ → Option EdgeLimits → ℕ → ℕ → Raster → Raster
block_filtered size None x y p = p
block_filtered size (Some limits) x y p =
    block_edges Horizontal size limits x y (block_edges Vertical size limits x y p)

-- p with f applied to plane k
abbrev pub on_plane : ℕ → (Raster → Raster) → Image → Image
on_plane k f p = with_plane p k (f (plane_of p k))
