-- The coefficient levels of one block, and its end-of-block position (eob; RFC 6386, chapter 13).
use Rattle.std.specs.Prelude.{◌≡◌, ◌≢◌, ◌<◌, ◌≤◌, ℕ, ◌-◌, ℤ, pos, Bool, nat_lt, List, length, replicate, slice_index_or}
use Rattle.std.specs.Prelude.{unsigned_abs}

-- the levels in zigzag order, as they are coded, and the position after the last token before the end of block (eob);
-- that is 0 if there is no such token, even if the first position is 1
pub record Block : Type 0 where
  pub levels : List ℤ
  pub end : ℕ

-- a block without tokens
abbrev pub no_tokens : Block
no_tokens = record { levels = replicate 16 (pos 0); end = 0 }

-- whether the block has a token before its end
abbrev pub has_token : Block → Bool
has_token b = nat_lt 0 b.end

-- the level at a position in zigzag order
abbrev pub level_of : Block → ℕ → ℤ
level_of b i = slice_index_or b.levels i (pos 0)

-- The invariant of a block: each level is from -2114 to 2114, and levels after the last token are 0.
pub record IsBlock (b : Block) : Type 0 where
  pub whole : length b.levels ≡ 16
  pub within : (i : ℕ) → unsigned_abs (level_of b i) ≤ 2114
  pub behind : (i : ℕ) → b.end ≤ i → level_of b i ≡ pos 0
  pub count : b.end ≤ 16

-- the last token of the block is a nonzero level, if it has a token
abbrev pub IsTight : Block → Type 0
IsTight b = 0 < b.end → level_of b (b.end - 1) ≢ pos 0
