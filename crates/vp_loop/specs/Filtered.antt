-- The filtered picture (RFC 6386, chapter 15.1): the line steps of all macroblocks in raster order, each with its own
-- level. Pinned by the test `filter_two_macroblocks`, and streams of other encoders in the gate.
use Rattle.std.specs.Prelude.{ℕ, List, ◌+◌, ◌*◌, slice_index_or}
use Rattle.vp_base.specs.declared.place.Place.{Place}
use Rattle.vp_base.specs.Image.{Image, macroblocks}
use Rattle.vp_base.specs.Over.{over}
use Rattle.vp_loop.specs.declared.strength.Level.{Level}
use Rattle.vp_loop.specs.Levels.{no_level}
use Rattle.vp_loop.specs.Edges.{edge_limits, chroma_limits, block_filtered}

-- the filtered macroblock, plane by plane
abbrev pub macroblock_filtered : Level → ℕ → ℕ → Image → Image
macroblock_filtered level column row p = record p {
  luma = block_filtered 16 (edge_limits level) (16 * column) (16 * row) p.luma;
  u = block_filtered 8 (chroma_limits (edge_limits level)) (8 * column) (8 * row) p.u;
  v = block_filtered 8 (chroma_limits (edge_limits level)) (8 * column) (8 * row) p.v;
}

-- a row of macroblocks, from left to right
unfoldable pub row_filtered : (Place → Level) → ℕ → Image → Image
row_filtered level row p =
    over (macroblocks p.width) (λ column. macroblock_filtered
    (level (record { column = column; row = row })) column row) p

-- the rows of macroblocks, from the top
unfoldable pub filtered : (Place → Level) → Image → Image
filtered level p = over (macroblocks p.height) (row_filtered level) p

-- the level at a place, from the levels of all macroblocks in raster order
abbrev pub level_in : List Level → ℕ → Place → Level
level_in levels columns p = slice_index_or levels (p.row * columns + p.column) no_level
