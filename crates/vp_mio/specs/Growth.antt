-- Private to the crate: a line that is put together.
use Rattle.std.specs.Prelude.{◌≡◌, ◌++◌, ℕ, Bool, List, true}

-- its bytes so far, if memory sufficed
pub record Draft : Type 0 where
  pub bytes : List ℕ
  pub is_whole : Bool

-- it grows by these bytes, unless memory was refused
abbrev pub GrowsBy : Draft → Draft → List ℕ → Type 0
GrowsBy old new bytes = new.is_whole ≡ true → (old.is_whole ≡ true) × (new.bytes ≡ old.bytes ++ bytes)
