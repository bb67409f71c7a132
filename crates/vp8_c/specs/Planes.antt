-- Three planes in the caller's memory, each with a stride: whether a picture fits, and the bytes that are read or
-- written. Pinned by the tests `rows_stand_apart` and `rows_that_do_not_fit`.
use Rattle.std.specs.Prelude.{◌≡◌, ◌≢◌, ◌≤◌, ◌<◌, ℕ, ◌+◌, ◌-◌, ◌*◌, ◌/◌, List, length, slice_index}
use Rattle.vp_base.specs.Raster.{pixel}
use Rattle.vp_base.specs.Image.{Image, plane_of, with_plane}
use Rattle.vp8_c.specs.declared.planes.Layout.{Layout}
use Rattle.vp8_c.specs.declared.planes.Strides.{Strides}
use Rattle.vp8_c.specs.declared.planes.CallerPlanes.{CallerPlanes}
use Rattle.vp8_c.specs.declared.planes.CallerPlanesMut.{CallerPlanesMut}

-- the bytes of the three planes, and their strides
pub record Planes : Type 0 where
  pub y : List ℕ
  pub u : List ℕ
  pub v : List ℕ
  pub strides : Strides

-- three planes with these bytes and strides
abbrev pub planes_of : List ℕ → ℕ → List ℕ → ℕ → List ℕ → ℕ → Planes
planes_of y y_stride u u_stride v v_stride = record {
  y = y;
  u = u;
  v = v;
  strides = record { y = y_stride; u = u_stride; v = v_stride };
}

-- the planes of the caller that are read
abbrev pub planes_in : CallerPlanes → Planes
planes_in p = record { y = p.y.now; u = p.u.now; v = p.v.now; strides = p.strides }

-- the planes of the caller that are written
abbrev pub planes_in_mut : CallerPlanesMut → Planes
planes_in_mut p = record { y = p.y.now; u = p.u.now; v = p.v.now; strides = p.strides }

-- the planes are still the same memory, whatever their bytes are
pub record AreSameMemory (old new : CallerPlanesMut) : Type 0 where
  pub y : new.y.ghost_name ≡ old.y.ghost_name
  pub u : new.u.ghost_name ≡ old.u.ghost_name
  pub v : new.v.ghost_name ≡ old.v.ghost_name

-- ---- layouts

-- the luma plane of a picture of this size
abbrev pub luma_layout : ℕ → ℕ → ℕ → Layout
luma_layout width height stride = record { width = width; height = height; stride = stride }

-- a chroma plane, which has half the width and height, rounded up
abbrev pub colour_layout : ℕ → ℕ → ℕ → Layout
colour_layout width height stride = record { width = (width + 1) / 2; height = (height + 1) / 2; stride = stride }

-- `len` bytes have room for the rows: they don't overlap, and the last one ends within the bytes
abbrev pub HasRoomForRows : Layout → ℕ → Type 0
HasRoomForRows l len = (l.width ≤ l.stride) × ((l.height - 1) * l.stride + l.width ≤ len)

-- the byte in column x of row y
abbrev pub byte_at : ℕ → List ℕ → ℕ → ℕ → ℕ
byte_at stride bytes x y = slice_index bytes (y * stride + x)

-- the bytes have the value `at x y` in column x of row y
abbrev pub AreStridedRows : Layout → List ℕ → (ℕ → ℕ → ℕ) → Type 0
AreStridedRows l bytes at = (x y : ℕ) → x < l.width → y < l.height → at x y ≡ byte_at l.stride bytes x y

-- after the call, the bytes have the value `at x y` in column x of row y, and all other bytes are unchanged
pub record HoldsRows (l : Layout) (at : ℕ → ℕ → ℕ) (before after : List ℕ) : Type 0 where
  pub rows : (x y : ℕ) → x < l.width → y < l.height → byte_at l.stride after x y ≡ at x y
  pub others : (i : ℕ) → i < length before → ((x y : ℕ) → x < l.width → y < l.height → i ≢ y * l.stride + x)
      → slice_index after i ≡ slice_index before i

-- ---- pictures

-- the planes have room for a picture of this size
pub record AllFit (width height : ℕ) (planes : Planes) : Type 0 where
  pub y : HasRoomForRows (luma_layout width height planes.strides.y) (length planes.y)
  pub u : HasRoomForRows (colour_layout width height planes.strides.u) (length planes.u)
  pub v : HasRoomForRows (colour_layout width height planes.strides.v) (length planes.v)

-- after the call, the planes hold the shown pixels of a picture, and all other bytes are unchanged
pub record HoldPicture (p : Image) (before after : Planes) : Type 0 where
  pub y : HoldsRows (luma_layout p.width p.height before.strides.y) (pixel p.luma) before.y after.y
  pub u : HoldsRows (colour_layout p.width p.height before.strides.u) (pixel p.u) before.u after.u
  pub v : HoldsRows (colour_layout p.width p.height before.strides.v) (pixel p.v) before.v after.v

-- the planes hold the shown pixels of a picture of this size
pub record AreRowsOf (width height : ℕ) (planes : Planes) (p : Image) : Type 0 where
  pub width_is : p.width ≡ width
  pub height_is : p.height ≡ height
  pub y : AreStridedRows (luma_layout width height planes.strides.y) planes.y (pixel p.luma)
  pub u : AreStridedRows (colour_layout width height planes.strides.u) planes.u (pixel p.u)
  pub v : AreStridedRows (colour_layout width height planes.strides.v) planes.v (pixel p.v)

-- plane k of a picture is read from the rows, and everything else is unchanged
pub record ReadsPlane (l : Layout) (bytes : List ℕ) (k : ℕ) (old new : Image) : Type 0 where
  pub rows : HoldsRows (record l { stride = (plane_of old k).width }) (byte_at l.stride bytes) (plane_of old k).pixels
      (plane_of new k).pixels
  pub columns_is : (plane_of new k).width ≡ (plane_of old k).width
  pub rows_is : (plane_of new k).height ≡ (plane_of old k).height
  pub others : new ≡ with_plane old k (plane_of new k)
