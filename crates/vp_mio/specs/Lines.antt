-- Lines that no input can forge: printable characters of ASCII, and a line feed at the end alone.
use Rattle.std.specs.Prelude.{◌≡◌, ◌==◌, ◌≤◌, ◌&&◌, ◌||◌, ◌+◌, ◌/◌, ◌%◌, ◌++◌, ◌∷◌, [], ℕ, Bool, true, List, nat_lt}
use Rattle.std.specs.Prelude.{flat_map, if◌then◌else◌}
use Rattle.std.specs.List.{list_all}

-- the byte is a printable character of ASCII
abbrev pub is_plain : ℕ → Bool
is_plain b = nat_lt 31 b && nat_lt b 127

-- printable characters, and a line feed after them
abbrev pub IsPlainLine : List ℕ → Type 0
IsPlainLine bytes = (text : List ℕ) × (bytes ≡ text ++ 10 ∷ []) × (list_all is_plain text ≡ true)

-- a plain line has a last byte, which is a line feed; each byte before it is from 32 to 126
abbrev pub PlainLinesArePrintable : Type 0
PlainLinesArePrintable = (IsPlainLine [] → ⊥)
    × ((text : List ℕ) (last : ℕ) → IsPlainLine (text ++ last ∷ []) → last ≡ 10)
    × ((before after : List ℕ) (b next : ℕ) → IsPlainLine (before ++ b ∷ next ∷ after) → (32 ≤ b) × (b ≤ 126))

-- ---- how the bytes of a text are written

-- a hexadecimal digit: 0 to 9, A to F
abbrev pub hexadecimal_digit : ℕ → ℕ
hexadecimal_digit d = if nat_lt d 10 then 48 + d else 55 + d

-- \xHH
abbrev pub escaped : ℕ → List ℕ
escaped b = 92 ∷ 120 ∷ hexadecimal_digit (b / 16) ∷ hexadecimal_digit (b % 16) ∷ []

-- a printable character is written as it is, and every other byte escaped
abbrev pub printed : ℕ → List ℕ
printed b = if is_plain b then b ∷ [] else escaped b

-- between quotation marks, a quotation mark and a backslash are escaped too
abbrev pub quoted : ℕ → List ℕ
quoted b = if b == 34 || b == 92 then escaped b else printed b

-- a text between quotation marks
abbrev pub quotation : List ℕ → List ℕ
quotation text = 34 ∷ flat_map quoted text ++ 34 ∷ []
