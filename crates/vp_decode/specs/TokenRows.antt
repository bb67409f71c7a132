-- Private to the crates vp_decode and vp_encode: the tokens of each macroblock, stated by what is read before it
-- (RFC 6386, chapter 13). Lemmas show that they are the tokens of `Frame.antt`.
use Rattle.std.specs.Prelude.{ℕ, ◌%◌, List, [], length, slice_index_or, slice_set}
use Rattle.vp_bool.specs.Bools.{State, initial_state}
use Rattle.vp_bool.specs.Reader.{Reader, ◌>>=◌, give, rows}
use Rattle.vp_base.specs.declared.place.Place.{Place}
use Rattle.vp_base.specs.Grid.{Grid, all, with_entry}
use Rattle.vp_base.specs.Over.{over}
use Rattle.vp_tokens.specs.declared.contexts.Tokens.{Tokens}
use Rattle.vp_tokens.specs.Blocks.{Blocks, no_blocks_read, macroblock, blocks_of}
use Rattle.vp_recon.specs.Predictor.{has_y2}
use Rattle.vp_decode.specs.MacroblockMaps.{modes_in, place}
use Rattle.vp_decode.specs.Frame.{FrameInfo, predictor_at}

-- the tokens of the macroblock at p, given the blocks (`seen`) of the macroblocks before it in raster order
unfoldable pub tokens_at : FrameInfo → Place → Grid Blocks → Reader Tokens
tokens_at f p seen =
    macroblock f.header.probabilities.coefficients seen p (has_y2 (predictor_at f p)) (modes_in f.maps p).skip

-- the blocks including those of the macroblock at p
unfoldable pub seen_read : FrameInfo → Place → Grid Blocks → Reader (Grid Blocks)
seen_read f p seen = do
  tokens ← tokens_at f p seen
  give (with_entry seen p (blocks_of (has_y2 (predictor_at f p)) tokens))

-- the blocks after the first n macroblocks of a row
unfoldable pub row_seen : FrameInfo → ℕ → ℕ → Grid Blocks → Reader (Grid Blocks)
row_seen f row n = rows n (λ column. seen_read f (place row column))

-- the tokens of a macroblock in a row; the row's partition is in state s at the start of the row
unfoldable pub row_tokens : FrameInfo → ℕ → Grid Blocks → State → ℕ → Tokens
row_tokens f row seen s column =
    let before = row_seen f row column seen s in
    (tokens_at f (place row column) before.0 before.1).0

-- the blocks that are read before a row, and the state of each token partition
pub record Readings : Type 0 where
  pub seen : Grid Blocks
  pub rests : List State

-- row r is read from partition r mod n (chapter 9.5)
abbrev pub row_partition : ℕ → Readings → State
row_partition row r = slice_index_or r.rests (row % length r.rests) (initial_state [])

-- one row read from its partition
abbrev pub token_row : FrameInfo → ℕ → Readings → Readings
token_row f row r =
    let read = row_seen f row f.maps.modes.columns r.seen (row_partition row r) in
    record { seen = read.0; rests = slice_set r.rests (row % length r.rests) read.1 }

-- before the first row
abbrev pub nothing_read : FrameInfo → List State → Readings
nothing_read f partitions = record {
  seen = all f.maps.modes.columns f.maps.modes.rows no_blocks_read;
  rests = partitions;
}

-- after the rows above `row`
unfoldable pub readings : FrameInfo → List State → ℕ → Readings
readings f partitions row = over row (token_row f) (nothing_read f partitions)

-- the tokens of the macroblock at p, read after those of all macroblocks before it
unfoldable pub tokens_when_read : FrameInfo → List State → Place → Tokens
tokens_when_read f partitions p =
    let before = readings f partitions p.row in
    row_tokens f p.row before.seen (row_partition p.row before) p.column
