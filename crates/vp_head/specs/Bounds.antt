-- The ranges of the fields of a frame tag and a frame header. They follow from the number of bits of each syntax
-- element.
use Rattle.std.specs.Prelude.{ℕ, ◌*◌, ◌^◌, ◌<◌, ◌≤◌, ℤ, pos, List, IfSome, slice_index_or, unsigned_abs}
use Rattle.vp_base.specs.declared.limits.Limits.{Limits}
use Rattle.vp_head.specs.declared.fields.Tag.{Tag}
use Rattle.vp_head.specs.declared.fields.KeyTag.{KeyTag}
use Rattle.vp_head.specs.declared.fields.SegmentValues.{SegmentValues}
use Rattle.vp_head.specs.declared.fields.LevelDeltas.{LevelDeltas}
use Rattle.vp_head.specs.declared.fields.Header.{Header}

-- the ranges of the fields that only a key packet has
pub record IsKeyInRange (limits : Limits) (key : KeyTag) : Type 0 where
  pub pixels : key.dim.w * key.dim.h ≤ limits.pixels
  pub horizontal_scale : key.horizontal_scale ≤ 3
  pub vertical_scale : key.vertical_scale ≤ 3

-- the ranges of the fields of a tag
pub record IsTagInRange (limits : Limits) (tag : Tag) : Type 0 where
  pub version : tag.version ≤ 3
  pub first_partition : tag.first_partition < 2 ^ 19
  pub key : IfSome tag.key (IsKeyInRange limits)

-- the ranges of the fields of a header
pub record IsHeaderInRange (h : Header) : Type 0 where
  pub log2_partitions : h.log2_partitions ≤ 3
  pub level : h.filter.level ≤ 63
  pub sharpness : h.filter.sharpness ≤ 7
  pub y_ac : h.quantiser.y_ac ≤ 127
  pub y_dc : unsigned_abs h.quantiser.y_dc ≤ 15
  pub y2_dc : unsigned_abs h.quantiser.y2_dc ≤ 15
  pub y2_ac : unsigned_abs h.quantiser.y2_ac ≤ 15
  pub uv_dc : unsigned_abs h.quantiser.uv_dc ≤ 15
  pub uv_ac : unsigned_abs h.quantiser.uv_ac ≤ 15

-- ---- the signed values that may be saved from earlier frames

-- each number is from -b to b
abbrev pub AreBounded : ℕ → List ℤ → Type 0
AreBounded b xs = (i : ℕ) → unsigned_abs (slice_index_or xs i (pos 0)) ≤ b

-- the segment values and the filter level deltas are in range
pub record AreFilterValuesInRange (values : SegmentValues) (deltas : LevelDeltas) : Type 0 where
  pub quantisers : AreBounded 127 values.quantisers
  pub levels : AreBounded 63 values.levels
  pub reference : AreBounded 63 deltas.reference
  pub mode : AreBounded 63 deltas.mode
