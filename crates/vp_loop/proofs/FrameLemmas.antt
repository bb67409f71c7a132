-- What the macroblocks of a row, and the rows of a picture, keep of the picture.
use Rattle.std.proofs.Common.{◌≡◌, ℕ}
use Rattle.vp_base.specs.declared.place.Place.{Place}
use Rattle.vp_base.specs.Image.{Image, macroblocks}
use Rattle.vp_base.specs.Over.{over}
use Rattle.vp_base.proofs.OverLemmas.{over-kept}
use Rattle.vp_loop.specs.declared.strength.Level.{Level}
use Rattle.vp_loop.specs.Filtered.{macroblock_filtered, row_filtered}

-- the macroblock in this column of the row
abbrev pub filtered_at : (Place → Level) → ℕ → ℕ → Image → Image
filtered_at level row column = macroblock_filtered (level (record { column = column; row = row })) column row

module _ {X : Type 0} (look : Image → X) (keeps : (level : Level) (column row : ℕ) (q : Image) → look (macroblock_filtered level column row q) ≡ look q) (level : Place → Level) where
  pub keeps_macroblocks : (row n : ℕ) (p : Image) → look (over n (filtered_at level row) p) ≡ look p
  keeps_macroblocks row n p = over-kept look n (filtered_at level row) p (λ k q. keeps (level (record { column = k; row = row })) k row q)

  pub keeps_row : (row : ℕ) (p : Image) → look (row_filtered level row p) ≡ look p
  unfolding row_filtered
  keeps_row row p = keeps_macroblocks row (macroblocks p.width) p
