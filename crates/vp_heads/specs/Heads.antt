-- Request heads with at most 32 fields (RFC 9112, chapters 2 to 5), by the grammar of the crate httparse.
use Rattle.std.specs.Prelude.{◌≤◌, ℕ, List, [], length}
use Rattle.httparse.specs.Grammar.{RequestHead, ReadsRequest}

-- the bytes are exactly this head
pub record IsHeadOf (bytes : List ℕ) (h : RequestHead) : Type 0 where
  pub reads : ReadsRequest bytes h []
  pub fits : length h.fields ≤ 32

-- the bytes are not a valid head
abbrev pub HasNoHead : List ℕ → Type 0
HasNoHead bytes = (h : RequestHead) → ¬ (IsHeadOf bytes h)
