-- Private to the crate: the zeros that are read up to a token that isn't 0.
use Rattle.std.specs.Prelude.{ℕ, zero, suc, ◌+◌, List, Option, Some, None, slice_index, if◌then◌else◌}
use Rattle.vp_bool.specs.Bools.{read}
use Rattle.vp_bool.specs.Reader.{Reader, ◌>>=◌, give}
use Rattle.vp_tokens.specs.Levels.{row}

-- the position of a token that isn't 0, and its probabilities
pub record NonzeroAt : Type 0 where
  pub position : ℕ
  pub row : List ℕ

-- the first token that isn't 0, among those of n positions from position i on; none of them is the end of block
unfoldable pub zeros : List (List (List ℕ)) → ℕ → ℕ → ℕ → Reader (Option NonzeroAt)
zeros bands zero i context = give None
zeros bands (suc n) i context = do
  more ← read (slice_index (row bands i context) 1)
  if more then give (Some (record { position = i; row = row bands i context })) else zeros bands n (i + 1) 0
