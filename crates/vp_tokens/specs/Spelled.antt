-- Which blocks of a macroblock can be written (RFC 6386, chapters 13.1 and 13.2). Pinned by the tests
-- `writes_row_of_a_stream` and `tokens_end_with_the_last_level`.
use Rattle.std.specs.Prelude.{◌≡◌, ◌≢◌, ◌<◌, ℕ, ◌-◌, ℤ, pos, Bool, false, List, [], slice_index_or}
use Rattle.vp_tokens.specs.declared.block.BlockKind.{BlockKind}
use Rattle.vp_tokens.specs.Block.{Block, level_of, no_tokens, IsTight}
use Rattle.vp_tokens.specs.Levels.{first_of}
use Rattle.vp_tokens.specs.Blocks.{kind_of}

-- A block of this type can be written. It has no level before its first position. Its last token is a nonzero level
-- unless it is at the last position.
pub record IsSpelledBlock (kind : BlockKind) (b : Block) : Type 0 where
  pub before : (i : ℕ) → i < first_of kind → level_of b i ≡ pos 0
  pub begun : 0 < b.end → first_of kind < b.end
  pub ended : 0 < b.end → b.end < 16 → level_of b (b.end - 1) ≢ pos 0

-- the blocks of a macroblock can be written; without a Y2 block the first one has no tokens
pub record AreSpelled (has_y2 : Bool) (blocks : List Block) : Type 0 where
  pub each : (k : ℕ) → k < 25 → IsSpelledBlock (kind_of has_y2 k) (slice_index_or blocks k no_tokens)
  pub no_y2 : has_y2 ≡ false → slice_index_or blocks 0 no_tokens ≡ no_tokens

-- the last token of each block is a nonzero level, if the block has a token
abbrev pub AreTight : List Block → Type 0
AreTight blocks = (k : ℕ) → IsTight (slice_index_or blocks k no_tokens)

-- the levels of block k
abbrev pub levels_of : List (List ℤ) → ℕ → List ℤ
levels_of levels k = slice_index_or levels k []

-- The levels of 25 blocks are those of a macroblock. With a Y2 block, luma blocks have level 0 at position 0. Without
-- one, all its levels are 0.
pub record AreLevels (has_y2 : Bool) (levels : List (List ℤ)) : Type 0 where
  pub before : (k i : ℕ) → k < 25 → i < first_of (kind_of has_y2 k)
      → slice_index_or (levels_of levels k) i (pos 0) ≡ pos 0
  pub no_y2 : has_y2 ≡ false → (i : ℕ) → slice_index_or (levels_of levels 0) i (pos 0) ≡ pos 0
