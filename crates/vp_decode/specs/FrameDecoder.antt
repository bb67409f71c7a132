-- Private to the crate: a macroblock that is looked up; a frame whose rows are being rebuilt; how one macroblock and
-- one row change it; the state after a number of rows.
use Rattle.std.specs.Prelude.{◌≡◌, ◌≢◌, ◌<◌, ℕ, List, Some, length, option_map, slice_get}
use Rattle.vp_bool.specs.Bools.{State}
use Rattle.vp_base.specs.declared.place.Place.{Place}
use Rattle.vp_base.specs.Grid.{Grid, entry}
use Rattle.vp_base.specs.Image.{Image, macroblocks}
use Rattle.vp_base.specs.Over.{over}
use Rattle.vp_tokens.specs.Blocks.{Blocks}
use Rattle.vp_tokens.specs.Contexts.{Contexts, AreContextsAt, right}
use Rattle.vp_recon.specs.Predictor.{predictor_of}
use Rattle.vp_recon.specs.Rebuilt.{rebuilt}
use Rattle.vp_loop.specs.declared.strength.Level.{Level}
use Rattle.vp_decode.specs.declared.frame_info.MacroblockInfo.{MacroblockInfo}
use Rattle.vp_decode.specs.declared.macroblocks.Macroblock.{Macroblock}
use Rattle.vp_decode.specs.MacroblockMaps.{MacroblockMaps, modes_in, place}
use Rattle.vp_decode.specs.Frame.{FrameInfo, predictor_at, tokens_of, macroblock_at, level_at}
use Rattle.vp_decode.specs.TokenRows.{tokens_at, seen_read, row_seen, row_tokens, readings}

-- the frame's info, its token contexts, the picture so far and the filter levels so far
pub record FrameDecoder : Type 0 where
  pub info : FrameInfo
  pub contexts : Contexts
  pub picture : Image
  pub levels : Grid Level

-- all parts belong to a frame of one size
pub record IsOneFrame (b : FrameDecoder) : Type 0 where
  pub columns : b.info.maps.modes.columns ≡ macroblocks b.picture.width
  pub rows : b.info.maps.modes.rows ≡ macroblocks b.picture.height
  pub level_columns : b.levels.columns ≡ macroblocks b.picture.width
  pub level_rows : b.levels.rows ≡ macroblocks b.picture.height
  pub contexts : length b.contexts.above ≡ macroblocks b.picture.width

-- b decodes the frame that a decodes, and has its sizes
pub record IsSameFrame (a b : FrameDecoder) : Type 0 where
  pub info : b.info ≡ a.info
  pub width : b.picture.width ≡ a.picture.width
  pub height : b.picture.height ≡ a.picture.height
  pub level_columns : b.levels.columns ≡ a.levels.columns
  pub level_rows : b.levels.rows ≡ a.levels.rows
  pub contexts : length b.contexts.above ≡ length a.contexts.above

-- m is the macroblock at p: its modes, and what it is predicted from
pub record IsMacroblockAt (f : FrameInfo) (p : Place) (m : MacroblockInfo) : Type 0 where
  pub modes : m.modes.now ≡ modes_in f.maps p
  pub predictor : predictor_of m.predictor ≡ predictor_at f p

-- r has the macroblocks of a row
pub record IsMacroblockRow (m : MacroblockMaps) (row : ℕ) (r : List Macroblock) : Type 0 where
  pub modes : (column : ℕ) → column < m.modes.columns
      → entry m.modes (place row column) ≡ option_map (λ a. a.modes) (slice_get r column)
  pub motion : (column : ℕ) → column < m.modes.columns
      → entry m.motion (place row column) ≡ option_map (λ a. a.motion) (slice_get r column)
  pub whole : length r ≡ m.modes.columns

-- what changes while the macroblock at p is rebuilt and its level is computed. g has the blocks before p. s and t are
-- the states of the partition before and after.
pub record IsMacroblockStep (f : FrameInfo) (p : Place) (g : Grid Blocks) (s t : State) (before after : FrameDecoder)
    : Type 0 where
  pub contexts : AreContextsAt (seen_read f p g s).0 (right p) after.contexts
  pub rest : t ≡ (seen_read f p g s).1
  pub picture : after.picture ≡ rebuilt (macroblock_at f p (tokens_at f p g s).0) p before.picture
  pub here : entry after.levels p ≡ Some (level_at f p (tokens_at f p g s).0)
  pub elsewhere : (q : Place) → q ≢ p → entry after.levels q ≡ entry before.levels q

-- what changes during the first n macroblocks of a row
pub record IsRow (f : FrameInfo) (row n : ℕ) (g : Grid Blocks) (s t : State) (before after : FrameDecoder)
    : Type 0 where
  pub contexts : AreContextsAt (row_seen f row n g s).0 (place row n) after.contexts
  pub rest : t ≡ (row_seen f row n g s).1
  pub picture : after.picture ≡ over n (λ column. rebuilt
      (macroblock_at f (place row column) (row_tokens f row g s column)) (place row column)) before.picture
  pub here : (column : ℕ) → column < n → entry after.levels (place row column)
      ≡ Some (level_at f (place row column) (row_tokens f row g s column))
  pub elsewhere : (q : Place) → q.row ≢ row → entry after.levels q ≡ entry before.levels q

-- the state after the rows above `row`, but for the picture: the token contexts, the states ds of the partitions, and
-- the filter levels
pub record IsAfterRows (f : FrameInfo) (partitions : List State) (row : ℕ) (ds : List State) (b : FrameDecoder)
    : Type 0 where
  pub contexts : AreContextsAt (readings f partitions row).seen (place row 0) b.contexts
  pub rests : ds ≡ (readings f partitions row).rests
  pub levels : (q : Place) → q.row < row → q.column < f.maps.modes.columns
      → entry b.levels q ≡ Some (level_at f q (tokens_of f partitions q))
