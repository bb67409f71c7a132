-- Motion vectors in quarter luma pixels, row and column (RFC 6386, chapter 5), and the motion of one macroblock
-- (chapter 16.3).
use Rattle.std.specs.Prelude.{ℕ, ◌≡◌, ◌<◌, false, List, replicate, slice_index, slice_index_or, ℤ, pos, neg_ℤ, ◌≤ℤ◌}
use Rattle.vp_head.specs.declared.fields.Reference.{Reference}
use Rattle.vp_tables.specs.declared.modes.VectorMode.{VectorMode}
use Rattle.vp_tables.specs.Modes.{is_split}

-- a motion vector in quarter luma pixels; positive is down and right (RFC 6386, chapter 5)
pub record Vector : Type 0 where
  pub row : ℤ
  pub column : ℤ

-- the zero vector
abbrev pub zero_vector : Vector
zero_vector = record { row = pos 0; column = pos 0 }

-- the components of a vector are from -n to n
pub record IsWithin (n : ℕ) (v : Vector) : Type 0 where
  pub low_row : neg_ℤ (pos n) ≤ℤ v.row
  pub high_row : v.row ≤ℤ pos n
  pub low_column : neg_ℤ (pos n) ≤ℤ v.column
  pub high_column : v.column ≤ℤ pos n

-- the components are at most the size of 1,024 macroblocks plus one coded difference
abbrev pub IsSmall : Vector → Type 0
IsSmall v = IsWithin 66559 v

-- A macroblock's own vector is that of its last block.
abbrev pub last_of : List Vector → Vector
last_of vectors = slice_index_or vectors 15 zero_vector

-- all blocks have one vector unless the mode is split
abbrev pub AreOne : VectorMode → List Vector → Type 0
AreOne mode vectors = is_split mode ≡ false → vectors ≡ replicate 16 (last_of vectors)

-- the motion of an inter macroblock
pub record Motion : Type 0 where
  pub mode : VectorMode
  pub vectors : List Vector

-- the stored motion of a macroblock; mode and vectors of an intra macroblock are meaningless
pub record MacroblockMotion : Type 0 where
  pub reference : Reference
  pub mode : VectorMode
  pub vectors : List Vector

-- the stored motion of a macroblock with this reference frame and motion
abbrev pub macroblock_motion : Reference → Motion → MacroblockMotion
macroblock_motion reference motion = record { reference = reference; mode = motion.mode; vectors = motion.vectors }

-- the candidate vectors of a macroblock (chapter 16.3); counts are the weights of zero vectors, of nearest, of near,
-- and of split neighbours
pub record Candidates : Type 0 where
  pub counts : List ℕ
  pub best : Vector
  pub nearest : Vector
  pub near : Vector

-- the candidates are at most a frame's size, and the weights at most 5
pub record AreCandidates (c : Candidates) : Type 0 where
  pub counts : (k : ℕ) → slice_index c.counts k < 6
  pub best : IsWithin 65536 c.best
  pub nearest : IsWithin 65536 c.nearest
  pub near : IsWithin 65536 c.near
