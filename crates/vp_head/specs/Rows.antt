-- The building blocks of the frame header (RFC 6386, chapters 8.1 and 19.2): flags, signed numbers, optional updates,
-- and lists of them. Pinned by the test `all_ones_header` (-127, -63, -15).
use Rattle.std.specs.Prelude.{ℕ, zero, suc, ℤ, pos, neg_ℤ, Bool, List, [], ◌∷◌, slice_index_or, if◌then◌else◌}
use Rattle.vp_bool.specs.Bools.{read, literal}
use Rattle.vp_bool.specs.Reader.{Reader, ◌>>=◌, give, when}

-- one bool of probability 128 (`L(1)`)
abbrev pub flag : Reader Bool
flag = read 128

-- a signed number: its magnitude of n bits, then its sign, 1 for minus
unfoldable pub magnitude : ℕ → Reader ℤ
magnitude n = do
  value ← literal n
  minus ← flag
  give (if minus then neg_ℤ (pos value) else pos value)

-- a flag of probability p; if it is set, m; otherwise the default
abbrev pub flagged : {A : Type 0} → ℕ → Reader A → A → Reader A
flagged p m otherwise = do
  set ← read p
  when set m otherwise

-- a flag; if it is set, a number of n bits and its sign; otherwise the default
unfoldable pub optional_signed : ℕ → ℤ → Reader ℤ
optional_signed n = flagged 128 (magnitude n)

-- a flag of probability p; if it is set, a probability of 8 bits; otherwise the default
unfoldable pub renewed : ℕ → ℕ → Reader ℕ
renewed p = flagged p (literal 8)

-- the syntax elements row 0 to row (n - 1), in order, as a list
abbrev pub list_of : {A : Type 0} → ℕ → (ℕ → Reader A) → Reader (List A)
list_of zero row = give []
list_of (suc n) row = do
  a ← row 0
  rest ← list_of n (λ i. row (suc i))
  give (a ∷ rest)

-- four signed numbers, each with its own flag; without it the old value is kept
unfoldable pub four_signed : ℕ → List ℤ → Reader (List ℤ)
four_signed n old = list_of 4 (λ i. optional_signed n (slice_index_or old i (pos 0)))
