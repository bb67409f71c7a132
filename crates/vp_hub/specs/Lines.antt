-- The lines of a connection's bytes. They are handed to the hub one by one, so at most one request head ends in each.
-- Pinned by the test `hundred_requests_in_one_piece`.
use Rattle.std.specs.Prelude.{◌≡◌, ◌≢◌, ◌==◌, ◌+◌, ◌<◌, ℕ, false, List, [], ◌∷◌, Some, length, slice_get}

-- no byte but the last is a line feed
abbrev pub IsLine : List ℕ → Type 0
IsLine [] = Unit {0}
IsLine (b ∷ []) = Unit {0}
IsLine (b ∷ c ∷ bs) = ((b == 10) ≡ false) × IsLine (c ∷ bs)

-- a line feed ends the line
abbrev pub LinesEndOnce : Type 0
LinesEndOnce = (line : List ℕ) (i : ℕ) → IsLine line → i + 1 < length line → slice_get line i ≢ Some 10
