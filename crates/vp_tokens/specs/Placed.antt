-- Private to the crate: reading or writing the blocks of a macroblock while nine flags above and nine to the left are
-- updated.
use Rattle.std.specs.Prelude.{◌≡◌, ℕ, zero, suc, ◌+◌, ◌-◌, Bool, List, length, slice_index, slice_set, if◌then◌else◌}
use Rattle.vp_bool.specs.Reader.{Reader, ◌>>=◌, give, when, rows}
use Rattle.vp_tokens.specs.declared.block.BlockKind.{BlockKind}
use Rattle.vp_tokens.specs.declared.block.BlockKind.TheVariants as kind_is
use Rattle.vp_tokens.specs.declared.macroblock.Flags.{Flags}
use Rattle.vp_tokens.specs.declared.macroblock.TheConstants.{ABOVE, LEFT}
use Rattle.vp_tokens.specs.Block.{Block, has_token}
use Rattle.vp_tokens.specs.Levels.{Probabilities, bands_of, first_of, levels, block_with}
use Rattle.vp_tokens.specs.Blocks.{kind_of, is_there}
use Rattle.vp_tokens.specs.Contexts.{flag_at}
use Rattle.vp_tokens.specs.Pieces.{true_count}

-- the blocks of a macroblock while they are read, and the flags of the blocks around the remaining ones
pub record Reading : Type 0 where
  pub blocks : List Block
  pub above : List Bool
  pub left : List Bool

-- blocks and flags as one state
abbrev pub reading : List Block → Flags → Reading
reading blocks flags = record { blocks = blocks; above = flags.above; left = flags.left }

-- a block with the probabilities of its type, from its first position on
unfoldable pub banded : List (List (List ℕ)) → ℕ → ℕ → Reader Block
banded bands first context = do
  found ← levels bands (16 - first) first context 0
  give (block_with first found)

-- block k, whose flag replaces those above and to the left
unfoldable pub placed : List (List (List ℕ)) → ℕ → ℕ → Reading → Reader Reading
placed bands first k r = do
  b ← banded bands first (true_count (flag_at r.above (slice_index ABOVE k)) (flag_at r.left (slice_index LEFT k)))
  give (record {
    blocks = slice_set r.blocks k b;
    above = slice_set r.above (slice_index ABOVE k) (has_token b);
    left = slice_set r.left (slice_index LEFT k) (has_token b);
  })

-- n blocks of one type, from block k on
unfoldable pub plane : Probabilities → BlockKind → ℕ → ℕ → Reading → Reader Reading
plane probabilities kind k n = rows n (λ j. placed (bands_of probabilities kind) (first_of kind) (k + j))

-- all blocks of a macroblock
unfoldable pub blocks_read : Probabilities → Bool → Reading → Reader Reading
blocks_read probabilities has_y2 r = do
  y2 ← when has_y2 (plane probabilities kind_is.Y2 0 1 r) r
  luma ← plane probabilities (kind_of has_y2 1) 1 16 y2
  plane probabilities kind_is.Chroma 17 8 luma

-- nine flags after blocks 0 to k - 1, each of which was stored at its place
abbrev pub flags_at : List ℕ → Bool → List Bool → List Bool → ℕ → List Bool
flags_at places has_y2 start had zero = start
flags_at places has_y2 start had (suc k) =
    if is_there has_y2 k
    then slice_set (flags_at places has_y2 start had k) (slice_index places k) (flag_at had k)
    else flags_at places has_y2 start had k

-- the flags before block k, from those above and to the left of the macroblock; had contains the flags of its blocks
pub record AreFlagsAt (has_y2 : Bool) (above left had : List Bool) (k : ℕ) (flags : Flags) : Type 0 where
  pub above_nine : length above ≡ 9
  pub left_nine : length left ≡ 9
  pub above_is : flags.above ≡ flags_at ABOVE has_y2 above had k
  pub left_is : flags.left ≡ flags_at LEFT has_y2 left had k
