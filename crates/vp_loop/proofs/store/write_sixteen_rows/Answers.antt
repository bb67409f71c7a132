use Rattle.std.proofs.Common.{◌≡◌, ◌∙◌, ℕ, ◌+◌, length, ap, ap₂, refl, sym, subst, arith}
use Rattle.std.specs.List.{slice_range}
use Rattle.vp_base.specs.Raster.{Raster}
use Rattle.vp_base.specs.Block.{with_block}
use Rattle.vp_base.specs.Image.{Image}
use Rattle.vp_loop.specs.declared.edges.Planes.{Planes}
use Rattle.vp_loop.specs.Lanes.{on_planes, pixel_of}
use Rattle.vp_loop.proofs.RowWrites.{half_written}
use Rattle.vp_loop.proofs.store.write_sixteen_rows.Goals as goal

pub returns-in-Luma : goal.returns-in-Luma
returns-in-Luma g c =
    let p = c.args.picture.now in
    let f = pixel_of g.R.Row.pixels c.args.rows.now in
    subst (λ (planes : Planes). c.write_rows.new.picture ≡ on_planes planes (λ n lane q. with_block q c.args.x c.args.y g.R.Row.count n (λ r. f (lane r))) p) (sym c.in-Luma.is)
    (c.write_rows.ensures ∙ ap (λ (n : ℕ). record p { luma = with_block p.luma c.args.x c.args.y g.R.Row.count n f }) c.requires.len)

pub returns-in-Chroma : goal.returns-in-Chroma
returns-in-Chroma g c =
    let p = c.args.picture.now in
    let rows = c.args.rows.now in
    let f = pixel_of g.R.Row.pixels rows in
    let half = half_written g.R.Row.pixels rows in
    let last : Raster → Raster = λ q. with_block q c.args.x c.args.y g.R.Row.count (length (slice_range rows 8 16)) (pixel_of g.R.Row.pixels (slice_range rows 8 16)) in
    subst (λ (planes : Planes). c.write_rows-in-Chroma-2.new.picture ≡ on_planes planes (λ n lane q. with_block q c.args.x c.args.y g.R.Row.count n (λ r. f (lane r))) p) (sym c.in-Chroma.is)
    (c.write_rows-in-Chroma-2.ensures
    ∙ (ap (λ (q : Image). record q { v = last q.v }) c.write_rows-in-Chroma.ensures
    ∙ ap₂ (λ (a b : Raster). record p { u = a; v = b }) (half 0 (λ j. j) p.u c.args.x c.args.y g.R.Row.count c.requires.len (omega arith) (λ j. omega arith))
    (half 8 (λ j. j + 8) p.v c.args.x c.args.y g.R.Row.count c.requires.len (omega arith) (λ j. refl))))
