-- Private to the crate: the walk of the token tree, unrolled pair by pair.
use Rattle.std.specs.Prelude.{ℕ, zero, suc, ◌≡◌, ◌⊎◌, Bool, true, false, not, List, slice_index, if◌then◌else◌}
use Rattle.vp_bool.specs.Bools.{read}
use Rattle.vp_bool.specs.Reader.{Reader, ◌>>=◌, give}
use Rattle.vp_tables.specs.declared.modes.Token.{Token}
use Rattle.vp_tables.specs.declared.modes.Token.TheVariants as token_is

-- one of two tokens, with the probability at index i
abbrev pub one_of : ℕ → Token → Token → List ℕ → Reader Token
one_of i low high row = do
  b ← read (slice_index row i)
  give (if b then high else low)

-- the walk from the pair at index 16
unfoldable pub categories_3_6 : List ℕ → Reader Token
categories_3_6 row = do
  b ← read (slice_index row 8)
  if b then one_of 10 token_is.Category5 token_is.Category6 row else one_of 9 token_is.Category3 token_is.Category4 row

-- the walk from the pair at index 12
unfoldable pub any_category : List ℕ → Reader Token
any_category row = do
  b ← read (slice_index row 6)
  if b then categories_3_6 row else one_of 7 token_is.Category1 token_is.Category2 row

-- the walk from the pair at index 8
unfoldable pub two_to_four : List ℕ → Reader Token
two_to_four row = do
  b ← read (slice_index row 4)
  if b then one_of 5 token_is.Three token_is.Four row else give token_is.Two

-- the walk from the pair at index 6
unfoldable pub above_one : List ℕ → Reader Token
above_one row = do
  b ← read (slice_index row 3)
  if b then any_category row else two_to_four row

-- the walk from the pair at index 4
unfoldable pub nonzero : List ℕ → Reader Token
nonzero row = do
  b ← read (slice_index row 2)
  if b then above_one row else give token_is.One

-- the walk from the pair at index 2
unfoldable pub more : List ℕ → Reader Token
more row = do
  b ← read (slice_index row 1)
  if b then nonzero row else give token_is.Zero

-- a walk starts at the root, or at pair 2, which skips the end of block
abbrev pub IsStart : ℕ → Type 0
IsStart from = (from ≡ 0) ⊎ (from ≡ 2)

-- whether the block ends here
unfoldable pub end_of_block : List ℕ → ℕ → Reader Bool
end_of_block row zero = do
  b ← read (slice_index row 0)
  give (not b)
end_of_block row (suc n) = give false

-- the context after a token
abbrev pub context_after_token : Token → ℕ
context_after_token token_is.EndOfBlock = 0
context_after_token token_is.Zero = 0
context_after_token token_is.One = 1
context_after_token _ = 2

-- the tokens below the pairs at indices 16, 12, 8, 6 and 4
abbrev pub is_categories_3_6 : Token → Bool
is_categories_3_6 token_is.Category3 = true
is_categories_3_6 token_is.Category4 = true
is_categories_3_6 token_is.Category5 = true
is_categories_3_6 token_is.Category6 = true
is_categories_3_6 _ = false

abbrev pub is_any_category : Token → Bool
is_any_category token_is.Category1 = true
is_any_category token_is.Category2 = true
is_any_category t = is_categories_3_6 t

abbrev pub is_two_to_four : Token → Bool
is_two_to_four token_is.Two = true
is_two_to_four token_is.Three = true
is_two_to_four token_is.Four = true
is_two_to_four _ = false

abbrev pub is_above_one : Token → Bool
is_above_one token_is.Two = true
is_above_one token_is.Three = true
is_above_one token_is.Four = true
is_above_one t = is_any_category t

abbrev pub is_nonzero : Token → Bool
is_nonzero token_is.One = true
is_nonzero t = is_above_one t
