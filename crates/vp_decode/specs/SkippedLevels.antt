-- Private to the crate: the filter levels of macroblocks that are skipped just if they have no tokens.
use Rattle.std.specs.Prelude.{◌≡◌, ◌<◌, ℕ, Some, not}
use Rattle.vp_base.specs.declared.place.Place.{Place}
use Rattle.vp_base.specs.Grid.{Grid, Has, entry}
use Rattle.vp_tokens.specs.declared.contexts.Tokens.{Tokens}
use Rattle.vp_tokens.specs.Blocks.{any_token}
use Rattle.vp_loop.specs.declared.strength.Level.{Level}
use Rattle.vp_decode.specs.MacroblockMaps.{modes_in, place}
use Rattle.vp_decode.specs.Frame.{FrameInfo, level_at}

-- the macroblock at p is skipped just if there is no token
abbrev pub IsSkipOf : FrameInfo → Place → Tokens → Type 0
IsSkipOf f p tokens = (modes_in f.maps p).skip ≡ not (any_token tokens)

-- the macroblocks without tokens are skipped, and no others
abbrev pub AreSkipsOf : FrameInfo → (Place → Tokens) → Type 0
AreSkipsOf f tokens = (p : Place) → Has f.maps.modes p → IsSkipOf f p (tokens p)

-- the filter level of each macroblock, by its tokens
abbrev pub level_by : FrameInfo → (Place → Tokens) → Place → Level
level_by f tokens = λ p. level_at f p (tokens p)

-- g has the filter levels of the first n macroblocks of a row
abbrev pub AreRowLevels : FrameInfo → ℕ → ℕ → Grid Level → Type 0
AreRowLevels f row n g = (column : ℕ) → column < n → (tokens : Tokens) → IsSkipOf f (place row column) tokens
    → entry g (place row column) ≡ Some (level_at f (place row column) tokens)
