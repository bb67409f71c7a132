-- Bytes copied to the beginning of the caller's buffer; the rest is unchanged.
use Rattle.std.specs.Prelude.{◌≡◌, ℕ, List, length, drop, ◌++◌}

-- the bytes are at the beginning, and those after them are unchanged
abbrev pub BeginsWith : List ℕ → List ℕ → List ℕ → Type 0
BeginsWith bytes before after = after ≡ bytes ++ drop (length bytes) before
