-- Private to the crate: what a searcher keeps between its searches.
use Rattle.std.specs.Prelude.{◌≡◌, ℕ, ◌+◌, ◌*◌, ◌<◌, ◌≤◌, List, length, slice_index, vec_len}
use Rattle.vp_base.specs.declared.place.Place.{Place}
use Rattle.vp_base.specs.Raster.{Raster}
use Rattle.vp_search.specs.declared.window.TheConstants.{WINDOW_WIDTH}
use Rattle.vp_search.specs.declared.kept.TheConstants.{SLIDE}
use Rattle.vp_search.specs.declared.kept.Kept.{Kept}
use Rattle.vp_search.specs.declared.kept_sums.KeptSums.{KeptSums}
use Rattle.vp_search.specs.Sums.{sum_below}
use Rattle.vp_search.specs.Window.{searched_pixel}
use Rattle.vp_search.specs.Bounds.{capped}
use Rattle.vp_search.specs.Coarse.{AreCoarse}

-- the sum of the pixels of the square at row y and column x of the window around the macroblock at a place
unfoldable pub searched_square : Raster → Place → ℕ → ℕ → ℕ → ℕ
searched_square p place range y x =
    capped (sum_below 8 (λ c. capped (sum_below 8 (λ r. searched_pixel p place range (y + r) (x + c)))))

-- a list holds these sums of the squares of a reference, and one their coarse sums, if it holds any
pub record AreKept (p : Raster) (range : ℕ) (kept : Kept) (sums coarse : List ℕ) : Type 0 where
  pub few : kept.columns ≤ 2 * range + 9
  pub room : kept.start ≤ SLIDE
  pub size : length sums ≡ (2 * range + 16) * WINDOW_WIDTH + 8 + SLIDE
  pub are : (y x : ℕ) → y ≤ 2 * range + 8 → x < kept.columns
      → slice_index sums (kept.start + (y * WINDOW_WIDTH + x)) ≡ searched_square p kept.place range y x
  pub coarse_size : 0 < length coarse → length coarse ≡ length sums
  pub coarse_are : 0 < length coarse → AreCoarse (length sums) sums coarse

-- they are kept for a range beside room for a window, of which the next search begins at some vector
pub record IsReady (p : Raster) (range : ℕ) (s : KeptSums) : Type 0 where
  pub room : vec_len s.window ≡ (2 * range + 16) * WINDOW_WIDTH + 8
  pub sums : AreKept p range s.kept s.sums.items s.coarse.items
  pub row : s.begin.row ≤ 2 * range
  pub column : s.begin.column ≤ 2 * range
