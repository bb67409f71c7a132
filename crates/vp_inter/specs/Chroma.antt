-- Private to the crate: the blocks of both chroma planes at one place.
use Rattle.std.specs.Prelude.{ℕ, ◌+◌, ◌≤◌}
use Rattle.vp_base.specs.Block.{with_block}
use Rattle.vp_base.specs.Image.{Image}
use Rattle.vp_inter.specs.declared.vector.PlaneVector.{PlaneVector}
use Rattle.vp_inter.specs.Inter.{inter_pixel}

-- the 8x8 blocks at column x of row y are inside the chroma planes
abbrev pub HasChroma : Image → ℕ → ℕ → Type 0
HasChroma p x y = (x + 8 ≤ p.u.width) × (y + 8 ≤ p.u.height) × (x + 8 ≤ p.v.width) × (y + 8 ≤ p.v.height)

-- a picture whose blocks there are predicted from a reference
abbrev pub with_chroma : Image → Image → ℕ → ℕ → PlaneVector → ℕ → Image
with_chroma p reference x y v version = record p {
  u = with_block p.u x y 8 8 (inter_pixel version reference.u x y v);
  v = with_block p.v x y 8 8 (inter_pixel version reference.v x y v);
}
