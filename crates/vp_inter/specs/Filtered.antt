-- The rows of the horizontal pass that blocks of one column are predicted from (RFC 6386, chapter 18.3).
use Rattle.std.specs.Prelude.{◌≡◌, ℕ, ◌+◌, ◌*◌, ◌<◌, List, slice_index}
use Rattle.vp_base.specs.Raster.{Raster}
use Rattle.vp_inter.specs.declared.vector.PlaneVector.{PlaneVector}
use Rattle.vp_inter.specs.Vectors.{fraction, first_tap}
use Rattle.vp_inter.specs.Filter.{taps}
use Rattle.vp_inter.specs.Inter.{horizontal_pass}

-- the first rows of a list, of sixteen columns, are those of a function
abbrev pub AreRows : List ℕ → ℕ → (ℕ → ℕ → ℕ) → Type 0
AreRows rows count pixel = (i c : ℕ) → i < count → c < 16 → slice_index rows (i * 16 + c) ≡ pixel i c

-- 22 rows of the six-tap horizontal pass for the 16x16 block at column x of row y, displaced by a vector
abbrev pub AreFiltered : Raster → ℕ → ℕ → PlaneVector → List ℕ → Type 0
AreFiltered p x y v rows =
    AreRows rows 22 (horizontal_pass (taps 0 (fraction v.column)) p (first_tap x v.column) (first_tap y v.row))

-- nineteen rows, each interleaved with the row three below
abbrev pub ArePaired : List ℕ → List ℕ → Type 0
ArePaired rows pairs = (x t : ℕ) → x < 304 → t < 2 → slice_index pairs (2 * x + t) ≡ slice_index rows (x + 48 * t)
