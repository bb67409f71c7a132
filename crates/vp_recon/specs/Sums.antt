-- Private to the crate: residues clamped to 16 bits, alone and in rows of adjacent subblocks, and their sums with a
-- prediction.
use Rattle.std.specs.Prelude.{◌≡◌, ℕ, ◌+◌, ◌*◌, ◌/◌, ◌%◌, ◌<◌, ◌≤◌, ℤ, pos, unsigned_abs, List, [], ◌∷◌, length}
use Rattle.std.specs.Prelude.{slice_index, slice_index_or}
use Rattle.vp_base.specs.Raster.{Raster, pixel, pixel_index}
use Rattle.vp_base.specs.Image.{Image}
use Rattle.vp_inter.specs.declared.vector.PlaneVector.{PlaneVector}
use Rattle.vp_recon.specs.Rebuilt.{summed, residue_at}
use Rattle.vp_base.specs.Block.{IsWhole, with_block, written}
use Rattle.vp_lanes.specs.Lane.{lane}

-- sixteen numbers that give the same sums as a residue when added to any byte and clamped
abbrev pub HasEqualSums : List ℤ → List ℤ → Type 0
HasEqualSums kept residue =
    (i : ℕ) → i < 16 → (pixel : ℕ) → pixel ≤ 255 → summed pixel (slice_index_or kept i (pos 0))
    ≡ summed pixel (slice_index_or residue i (pos 0))

-- a residue of zeros
abbrev pub IsNothing : List ℤ → Type 0
IsNothing residue = (i : ℕ) → i < 16 → slice_index_or residue i (pos 0) ≡ pos 0

-- the pixels of a block of n by n are bytes
abbrev pub AreBlockBytes : ℕ → (ℕ → ℕ → ℕ) → Type 0
AreBlockBytes n block = (r c : ℕ) → r < n → c < n → block r c ≤ 255

-- p with both chroma planes changed
abbrev pub with_chroma : Image → (ℕ → Raster → Raster) → Image
with_chroma p f = record p { u = f 1 p.u; v = f 2 p.v }

-- ---- rows

-- the block of n columns and h rows at column x of row y of p has its first pixel at index `at` of these bytes, whose
-- rows are `stride` apart
pub record BlockLiesAt (p : Raster) (x y n h : ℕ) (bytes : List ℕ) (at stride : ℕ) : Type 0 where
  pub whole : IsWhole p
  pub same : p.pixels ≡ bytes
  pub wide : p.width ≡ stride
  pub start : at ≡ pixel_index p x y
  pub columns : x + n ≤ p.width
  pub rows : y + h ≤ p.height

-- four vectors
abbrev pub Four : Type 0
Four = List ℤ × List ℤ × List ℤ × List ℤ

-- number j of row r of four vectors
abbrev pub row_lane : List ℤ → List ℤ → List ℤ → List ℤ → ℕ → ℕ → ℤ
row_lane a b c d r j = lane (slice_index_or (a ∷ b ∷ c ∷ d ∷ []) r []) j

-- pixel j of row r of four rows
abbrev pub row_pixel : List ℕ → List ℕ → List ℕ → List ℕ → ℕ → ℕ → ℕ
row_pixel a b c d r j = slice_index (slice_index_or (a ∷ b ∷ c ∷ d ∷ []) r []) j

-- n numbers small enough to be added to a byte in 16 bits
abbrev pub AreLow : ℕ → List ℤ → Type 0
AreLow n xs = (j : ℕ) → j < n → unsigned_abs (lane xs j) ≤ 8800

-- four rows of n such numbers
abbrev pub AreLowRows : ℕ → List ℤ → List ℤ → List ℤ → List ℤ → Type 0
AreLowRows n a b c d = (r j : ℕ) → r < 4 → j < n → unsigned_abs (row_lane a b c d r j) ≤ 8800

-- four rows of n numbers that add up like the residues of adjacent subblocks
pub record AreRows (n : ℕ) (a b c d : List ℤ) (own : ℕ → List ℤ) : Type 0 where
  pub low : AreLowRows n a b c d
  pub sums : (r j pixel : ℕ) → r < 4 → j < n → pixel ≤ 255 → summed pixel (row_lane a b c d r j)
      ≡ summed pixel (slice_index_or (own (j / 4)) (4 * r + j % 4) (pos 0))

-- the pixel at row r and column c of adjacent subblocks, the first of which is at column x of row y of p, with their
-- residues added
abbrev pub strip_sum : Raster → ℕ → ℕ → (ℕ → List ℤ) → ℕ → ℕ → ℕ
strip_sum p x y own r c =
    summed (pixel p (x + c) (y + r)) (slice_index_or (own (c / 4)) (4 * r + c % 4) (pos 0))

-- bytes of which h rows of n, from index `at` on and `stride` apart, are replaced, and no others: those of a block at
-- column x of row y of p by the pixels f p x y
pub record IsBlockWritten (n h : ℕ) (old new : List ℕ) (at stride : ℕ) (f : Raster → ℕ → ℕ → ℕ → ℕ → ℕ) : Type 0 where
  pub value : (p : Raster) (x y : ℕ) → BlockLiesAt p x y n h old at stride → new ≡ written p x y n h (f p x y)
  pub len : length new ≡ length old

-- the residues of adjacent subblocks are added to them
abbrev pub IsAdded : ℕ → List ℕ → List ℕ → ℕ → ℕ → (ℕ → List ℤ) → Type 0
IsAdded n old new at stride own = IsBlockWritten n 4 old new at stride (λ p x y. strip_sum p x y own)

-- the pixel at row r and column c of the block at column x of row y of p, which is `across` subblocks wide and high,
-- with its residue added
abbrev pub block_sum : ℕ → Raster → ℕ → ℕ → (ℕ → List ℤ) → ℕ → ℕ → ℕ
block_sum across p x y residue r c = summed (pixel p (x + c) (y + r)) (residue_at across residue r c)

-- the residues of a block that is `across` subblocks wide and high are added to it: in bytes, and in a plane
abbrev pub IsAddedToBlock : ℕ → List ℕ → List ℕ → ℕ → ℕ → (ℕ → List ℤ) → Type 0
IsAddedToBlock across old new at stride residue =
    IsBlockWritten (4 * across) (4 * across) old new at stride (λ p x y. block_sum across p x y residue)

abbrev pub with_sums : ℕ → Raster → ℕ → ℕ → (ℕ → List ℤ) → Raster
with_sums across p x y residue = with_block p x y (4 * across) (4 * across) (block_sum across p x y residue)

-- a block is two or four subblocks wide
abbrev pub IsAcross : ℕ → Type 0
IsAcross across = (0 < across) × (across ≤ 4) × (across % 2 ≡ 0)

-- ---- motion

-- vector k of these
abbrev pub vector_at : List PlaneVector → ℕ → PlaneVector
vector_at vectors k = slice_index_or vectors k (record { row = pos 0; column = pos 0 })

-- the vectors of n subblocks
abbrev pub AreVectors : ℕ → List PlaneVector → (ℕ → PlaneVector) → Type 0
AreVectors n vectors vector = (k : ℕ) → k < n → vector_at vectors k ≡ vector k

-- the number among all sixteen of subblock k in a quarter of the luma
abbrev pub sub_of_quarter : ℕ → ℕ → ℕ
sub_of_quarter quarter k = 8 * (quarter / 2) + 2 * (quarter % 2) + (4 * (k / 2) + k % 2)
