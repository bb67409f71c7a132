-- Private to the crate: the blocks written so far, a level that was written, and the token of a magnitude.
use Rattle.std.specs.Prelude.{◌≡◌, ◌<◌, ◌≤◌, ℕ, ℤ, zero, suc, ◌+◌, ◌^◌, false, List, [], ◌∷◌, length}
use Rattle.vp_bool.specs.Reader.{Reader}
use Rattle.vp_bool.specs.Intervals.{Interval}
use Rattle.vp_bool.specs.Writing.{Writes}
use Rattle.vp_tables.specs.declared.modes.Token.{Token}
use Rattle.vp_tables.specs.Tables.{least_magnitude, extra_probabilities}
use Rattle.vp_tokens.specs.Block.{Block, no_tokens}
use Rattle.vp_tokens.specs.Levels.{is_end, level_magnitude, signed_level}

-- The token encodes magnitude s: its extra bits encode the difference between s and its least magnitude.
pub record IsTokenOf (t : Token) (s : ℕ) : Type 0 where
  pub goes_on : is_end t ≡ false
  pub least : least_magnitude t ≤ s
  pub extra : s < least_magnitude t + 2 ^ length (extra_probabilities t)

-- A level of magnitude n was written: a token, which m reads, the token's extra bits, and the sign.
pub record IsLevelWritten (m : Reader Token) (n : ℕ) (level : ℤ) (old new : Interval) : Type 0 where
  pub what : Token
  pub goes_on : is_end what ≡ false
  pub mid : Interval
  pub later : Interval
  pub token : Writes m old mid what
  pub magnitude : Writes (level_magnitude what) mid later n
  pub sign : Writes (signed_level n) later new level

-- the first n items, and other for each later one
abbrev pub padded_prefix : {X : Type 0} → X → ℕ → List X → List X
padded_prefix other n [] = []
padded_prefix other zero (x ∷ xs) = other ∷ padded_prefix other zero xs
padded_prefix other (suc n) (x ∷ xs) = x ∷ padded_prefix other n xs

-- the blocks before block k; the others have no tokens yet
abbrev pub prefix_blocks : ℕ → List Block → List Block
prefix_blocks k blocks = padded_prefix no_tokens k blocks
