use Rattle.std.proofs.Common.{◌≡◌, ℕ, ◌+◌, ◌*◌, ◌/◌, List, refl, sym, ap, subst}
use Rattle.std.specs.Prelude.{slice_index}
use Rattle.vp_base.specs.Raster.{Raster, pixel}
use Rattle.vp8_c.specs.declared.planes.Layout.{Layout}
use Rattle.vp8_c.specs.declared.planes.Strides.{Strides}
use Rattle.vp8_c.specs.Planes.{AreStridedRows, HoldPicture, HoldsRows, colour_layout, luma_layout}
use Rattle.vp8_c.proofs.RowLemmas.{laid}
use Rattle.vp8_c.proofs.laws.given_pictures_are_read.Goals as goal

-- a plane, read by its own width
own_rows : (r : Raster) (stride width height : ℕ) → stride ≡ r.width → AreStridedRows (laid width height stride) r.pixels (pixel r)
own_rows r stride width height is x y within below = ap (λ (w : ℕ). slice_index r.pixels (y * w + x)) (sym is)

-- rows that are held are read
held_rows : (l : Layout) (at : ℕ → ℕ → ℕ) (before after : List ℕ) → HoldsRows l at before after → AreStridedRows l after at
held_rows l at before after held x y within below = sym (held.rows x y within below)

pub returns-clause-lent : goal.returns-clause-lent
returns-clause-lent c p lent is = record {
  width_is = sym is.width_is;
  height_is = sym is.height_is;
  y = own_rows p.luma lent.y.stride lent.width lent.height is.y;
  u = own_rows p.u lent.u.stride ((lent.width + 1) / 2) ((lent.height + 1) / 2) is.u;
  v = own_rows p.v lent.v.stride ((lent.width + 1) / 2) ((lent.height + 1) / 2) is.v;
}

pub returns-clause-copied : goal.returns-clause-copied
returns-clause-copied c p status before after copies well same =
    let held : HoldPicture p before after = copies.copied well in
    let AreLuma : Strides → Type 0 = λ s. AreStridedRows (luma_layout p.width p.height s.y) after.y (pixel p.luma) in
    let AreU : Strides → Type 0 = λ s. AreStridedRows (colour_layout p.width p.height s.u) after.u (pixel p.u) in
    let AreV : Strides → Type 0 = λ s. AreStridedRows (colour_layout p.width p.height s.v) after.v (pixel p.v) in (
      copies.fits.0 well,
      record {
        width_is = refl;
        height_is = refl;
        y = subst AreLuma (sym same) (held_rows (luma_layout p.width p.height before.strides.y) (pixel p.luma) before.y after.y held.y);
        u = subst AreU (sym same) (held_rows (colour_layout p.width p.height before.strides.u) (pixel p.u) before.u after.u held.u);
        v = subst AreV (sym same) (held_rows (colour_layout p.width p.height before.strides.v) (pixel p.v) before.v after.v held.v);
      },
    )
