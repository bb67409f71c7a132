-- Rows written one after another.
use borrow.Author.Rules.{rules}
use Rattle.std.proofs.Common.{◌≡◌, ◌≤◌, ◌<◌, ◌∙◌, ℕ, ◌+◌, ◌-◌, ◌*◌, ap₂, List, length, take, get_or, refl, ap, sym, subst, inl, inr, arith}
use Rattle.std.proofs.lemmas.Nat.{rows}
use Rattle.std.proofs.lemmas.Bool.{cases_lt}
use Rattle.std.specs.Prelude.{slice_range}
use Rattle.std.proofs.lemmas.List.{get_or-take, places}
use Rattle.vp_base.specs.Raster.{Raster, overlay, pixel, row_of, with_run}
use Rattle.vp_base.specs.Block.{IsWhole}
use Rattle.vp_base.specs.Image.{Image, plane_of, with_plane}
use Rattle.vp_base.proofs.ImageLemmas.{plane_of-with_plane, with_plane-plane_of, with_plane-with_plane}
use Rattle.vp_base.proofs.BlockLemmas.{get_or-overlay_inside, get_or-overlay_below, get_or-overlay_above, get_or-row_of}
use Rattle.vp8_c.specs.Planes.{AreStridedRows, AreRowsOf, HoldsRows, Planes, ReadsPlane, byte_at, colour_layout, luma_layout}
use Rattle.vp8_c.specs.declared.planes.Layout.{Layout}

-- so many columns and rows, a stride apart
abbrev pub laid : ℕ → ℕ → ℕ → Layout
laid width height stride = record { width = width; height = height; stride = stride }

-- no row is written
pub holds_none : (width stride : ℕ) (at : ℕ → ℕ → ℕ) (bytes : List ℕ) → HoldsRows (laid width 0 stride) at bytes bytes
holds_none width stride at bytes = record { rows = λ x y within below. absurd (omega arith); others = λ i within none. refl }

-- a row lies before the next one
row_before : (stride x y k : ℕ) → x < stride → y < k → y * stride + x < k * stride
row_before stride x y k within before = grind (arith, rows)

-- a row more
pub holds_more : (width y stride : ℕ) (at : ℕ → ℕ → ℕ) (before bytes run : List ℕ) → HoldsRows (laid width y stride) at before bytes → length bytes ≡ length before
    → width ≤ stride → length run ≡ width → y * stride + width ≤ length bytes → ((x : ℕ) → x < width → get_or run x 0 ≡ at x y)
    → HoldsRows (laid width (y + 1) stride) at before (overlay bytes (y * stride) run)
holds_more width y stride at before bytes run so_far len apart long fits is =
    let fit : y * stride + length run ≤ length bytes = omega arith in
    record {
      rows = λ x k within below.
          elim (cases_lt k y) [
            | inl early ↦ (let left : k * stride + x < y * stride = row_before stride x k y (omega arith) early in
                get_or-overlay_below bytes (y * stride) run (k * stride + x) fit left ∙ so_far.rows x k within early)
            | inr late ↦ (let here : y ≡ k = omega arith in
                let P : ℕ → Type 0 = λ j. byte_at stride (overlay bytes (y * stride) run) x j ≡ at x j in
                subst P here (get_or-overlay_inside bytes (y * stride) run x fit (omega arith) ∙ is x within))
          ];
      others = λ i within none.
          let kept : get_or bytes i 0 ≡ get_or before i 0 = so_far.others i within (λ x k inside below. none x k inside (omega arith)) in
          elim (cases_lt i (y * stride)) [
            | inl left ↦ get_or-overlay_below bytes (y * stride) run i fit left ∙ kept
            | inr past ↦ elim (cases_lt i (y * stride + width)) [
              | inl inside ↦ absurd (none (i - y * stride) y (omega arith) (omega arith) (omega arith))
              | inr right ↦ get_or-overlay_above bytes (y * stride) run i fit (omega arith) (omega arith) ∙ kept
            ]
          ];
    }

-- the first columns of a row of a plane
pub row_is : (p : Raster) (width y : ℕ) (row : List ℕ) → row ≡ row_of p y → width ≤ p.width → (x : ℕ) → x < width → get_or (take width row) x 0 ≡ pixel p x y
row_is p width y row of_plane wide x within =
    get_or-take width row x 0 within ∙ ap (λ (ns : List ℕ). get_or ns x 0) of_plane ∙ get_or-row_of p x y (omega arith)

-- one of so many rows ends where the last one does, at the latest
pub ends_within : (width height stride len y : ℕ) → (height - 1) * stride + width ≤ len → y < height → y * stride + width ≤ len
ends_within width height stride len y fits below =
    let step : y * stride ≤ (height - 1) * stride = grind (arith, rows) in omega arith

-- ---- rows read into a plane

-- no row is read
pub read_none : (width stride : ℕ) (bytes : List ℕ) (k : ℕ) (p : Image) → ReadsPlane (laid width 0 stride) bytes k p p
read_none width stride bytes k p = record {
  rows = holds_none width (plane_of p k).width (byte_at stride bytes) (plane_of p k).pixels;
  columns_is = refl;
  rows_is = refl;
  others = sym (with_plane-plane_of p k);
}

-- a byte of a run
pub run_is : (bytes : List ℕ) (i n x : ℕ) → x < n → get_or (slice_range bytes i (i + n)) x 0 ≡ get_or bytes (i + x) 0
run_is bytes i n x within = search (rules, places)

pub run_long : (bytes : List ℕ) (i n : ℕ) → i + n ≤ length bytes → length (slice_range bytes i (i + n)) ≡ n
run_long bytes i n fits = search (rules, places)

-- a row of a whole plane ends within its numbers
row_within : (w h width y : ℕ) → width ≤ w → y < h → y * w + width ≤ h * w
row_within w h width y wide below = let step : y * w + w ≤ h * w = grind (arith, rows) in omega arith

-- a row more
pub read_more : (old at new : Image) (k width y stride : ℕ) (bytes run : List ℕ) → ReadsPlane (laid width y stride) bytes k old at
    → new ≡ with_plane at k (with_run (plane_of at k) 0 y run) → IsWhole (plane_of old k) → IsWhole (plane_of at k)
    → width ≤ (plane_of old k).width → y < (plane_of old k).height → length run ≡ width
    → ((x : ℕ) → x < width → get_or run x 0 ≡ byte_at stride bytes x y) → ReadsPlane (laid width (y + 1) stride) bytes k old new
read_more old at new k width y stride bytes run so_far is whole whole_at wide below long values =
    let w : ℕ = (plane_of old k).width in let h : ℕ = (plane_of old k).height in let here : Raster = plane_of at k in
    let q : plane_of new k ≡ with_run here 0 y run = ap (λ (p : Image). plane_of p k) is ∙ plane_of-with_plane at k (with_run here 0 y run) in
    let area : here.height * here.width ≡ h * w = ap₂ (λ (a b : ℕ). a * b) so_far.rows_is so_far.columns_is in
    let same : length here.pixels ≡ length (plane_of old k).pixels = whole_at ∙ area ∙ sym whole in
    let room : y * w + width ≤ h * w = row_within w h width y wide below in
    let place_is : y * w ≡ y * here.width + 0 = ap (λ (n : ℕ). y * n) (sym so_far.columns_is) ∙ (let t : y * here.width ≡ y * here.width + 0 = omega arith in t) in
    let e : overlay here.pixels (y * w) run ≡ (plane_of new k).pixels = ap (λ (j : ℕ). overlay here.pixels j run) place_is ∙ ap (λ (p : Raster). p.pixels) (sym q) in
    let more : HoldsRows (laid width (y + 1) w) (byte_at stride bytes) (plane_of old k).pixels (overlay here.pixels (y * w) run) =
    holds_more width y w (byte_at stride bytes) (plane_of old k).pixels here.pixels run so_far.rows same wide long (let l : length here.pixels ≡ h * w = whole_at ∙ area in omega arith) values in
    let P : List ℕ → Type 0 = λ ns. HoldsRows (laid width (y + 1) w) (byte_at stride bytes) (plane_of old k).pixels ns in
    record {
      rows = subst P e more;
      columns_is = ap (λ (p : Raster). p.width) q ∙ so_far.columns_is;
      rows_is = ap (λ (p : Raster). p.height) q ∙ so_far.rows_is;
      others = is ∙ ap (λ (p : Image). with_plane p k (with_run here 0 y run)) so_far.others
          ∙ with_plane-with_plane old k here (with_run here 0 y run) ∙ ap (λ (r : Raster). with_plane old k r) (sym q);
    }

-- what was read, by columns and rows
pub read_is : (l : Layout) (bytes : List ℕ) (k : ℕ) (old new : Image) → ReadsPlane l bytes k old new → AreStridedRows l bytes (pixel (plane_of new k))
read_is l bytes k old new reads x y within below =
    ap (λ (w : ℕ). get_or (plane_of new k).pixels (y * w + x) 0) reads.columns_is ∙ reads.rows.rows x y within below

-- three planes
pub all_read : (width height : ℕ) (planes : Planes) (old a b new : Image) → old.width ≡ width → old.height ≡ height
    → ReadsPlane (luma_layout width height planes.strides.y) planes.y 0 old a
    → ReadsPlane (colour_layout width height planes.strides.u) planes.u 1 a b
    → ReadsPlane (colour_layout width height planes.strides.v) planes.v 2 b new
    → AreRowsOf width height planes new
all_read width height planes old a b new wide high first second third =
    let luma : new.luma ≡ a.luma = ap (λ (p : Image). p.luma) third.others ∙ ap (λ (p : Image). p.luma) second.others in
    let of_u : new.u ≡ b.u = ap (λ (p : Image). p.u) third.others in
    let Y : Layout = luma_layout width height planes.strides.y in
    let U : Layout = colour_layout width height planes.strides.u in
    let V : Layout = colour_layout width height planes.strides.v in
    let AreLuma : Raster → Type 0 = λ r. AreStridedRows Y planes.y (pixel r) in
    let AreU : Raster → Type 0 = λ r. AreStridedRows U planes.u (pixel r) in
    record {
      width_is = ap (λ (p : Image). p.width) third.others ∙ ap (λ (p : Image). p.width) second.others ∙ ap (λ (p : Image). p.width) first.others ∙ wide;
      height_is = ap (λ (p : Image). p.height) third.others ∙ ap (λ (p : Image). p.height) second.others ∙ ap (λ (p : Image). p.height) first.others ∙ high;
      y = subst AreLuma (sym luma) (read_is Y planes.y 0 old a first);
      u = subst AreU (sym of_u) (read_is U planes.u 1 a b second);
      v = read_is V planes.v 2 b new third;
    }
