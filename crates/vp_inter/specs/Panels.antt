-- Private to the crate: panels, of eight columns and up to 21 rows, which are in three chains.
use Rattle.std.specs.Prelude.{◌≡◌, ◌+◌, ◌*◌, ◌<◌, ℕ, ℤ, List, slice_index}
use Rattle.vp_inter.specs.Filter.{filter_six}
use Rattle.vp_inter.specs.declared.panel.Panel.{Panel}
use Rattle.vp_inter.specs.declared.panel.Pair.{Pair}

-- a chain of rows of eight pixels: every third row from row `from` on
abbrev pub HoldsRows : List ℕ → (ℕ → ℕ → ℕ) → ℕ → ℕ → Type 0
HoldsRows chain pixel from count =
    (e c : ℕ) → e < count → c < 8 → slice_index chain (e * 8 + c) ≡ pixel (3 * e + from) c

-- a panel with `count` rows in each chain
abbrev pub IsPanel : Panel → (ℕ → ℕ → ℕ) → ℕ → Type 0
IsPanel panel pixel count =
    HoldsRows panel.first pixel 0 count × HoldsRows panel.second pixel 1 count × HoldsRows panel.third pixel 2 count

-- a panel with thirteen rows
abbrev pub IsShortPanel : Panel → (ℕ → ℕ → ℕ) → Type 0
IsShortPanel panel pixel =
    HoldsRows panel.first pixel 0 5 × HoldsRows panel.second pixel 1 4 × HoldsRows panel.third pixel 2 4

-- a panel with this many rows, 13 or 21
abbrev pub IsPanelOf : ℕ → Panel → (ℕ → ℕ → ℕ) → Type 0
IsPanelOf rows panel pixel = (rows ≡ 13 → IsShortPanel panel pixel) × (rows ≡ 21 → IsPanel panel pixel 7)

-- row r and the row three below, interleaved
abbrev pub IsPaired : List ℕ → (ℕ → ℕ → ℕ) → ℕ → Type 0
IsPaired pair pixel r = (j t : ℕ) → j < 8 → t < 2 → slice_index pair (2 * j + t) ≡ pixel (r + 3 * t) j

-- indices that interleave the two halves of a vector
abbrev pub Interleave : List ℕ → Type 0
Interleave indices = (j t : ℕ) → j < 8 → t < 2 → slice_index indices (2 * j + t) ≡ 8 * t + j

-- 21 rows of sixteen pixels in two panels
abbrev pub ArePanels : Panel → Panel → (ℕ → ℕ → ℕ) → Type 0
ArePanels left right pixel = IsPanel left pixel 7 × IsPanel right (λ r c. pixel r (8 + c)) 7

-- row r of sixteen pixels and the row three below, interleaved
abbrev pub IsPair : Pair → (ℕ → ℕ → ℕ) → ℕ → Type 0
IsPair pair pixel r = IsPaired pair.left pixel r × IsPaired pair.right (λ r c. pixel r (8 + c)) r

-- sixteen pixels of row r by the vertical pass
abbrev pub IsFilteredRow : List ℤ → (ℕ → ℕ → ℕ) → ℕ → List ℕ → Type 0
IsFilteredRow weights pixel r row =
    (x : ℕ) → x < 16 → slice_index row x ≡ filter_six weights (λ k. pixel (r + k) x)
