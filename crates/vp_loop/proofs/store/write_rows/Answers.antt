use Rattle.std.proofs.Common.{◌≡◌, ◌∙◌, ℕ, ◌+◌, ◌*◌, length, ap, sym, subst, arith}
use Rattle.vp_base.specs.Raster.{Raster}
use Rattle.vp_base.specs.Image.{plane_of, with_plane}
use Rattle.vp_base.specs.Block.{IsWhole}
use Rattle.vp_loop.specs.Lanes.{pixel_of}
use Rattle.vp_loop.proofs.RowReads.{block_room}
use Rattle.vp_loop.proofs.RowWrites.{all_put}
use Rattle.vp_loop.proofs.store.write_rows.Goals as goal

pub write_rows_at-requires-clause-room : goal.write_rows_at-requires-clause-room
write_rows_at-requires-clause-room g c r within =
    let q = plane_of c.args.picture.now c.args.k in
    let wide : c.width-stride.result ≡ q.width = c.width-stride.ensures.value ∙ ap (λ (p : Raster). p.width) c.plane-2.ensures in
    let rows = c.requires.rows in
    let columns = c.requires.columns in
    let size : length c.pixels_mut.result.now ≡ q.height * c.width-stride.result = c.pixels_mut.ensures.len ∙ ap (λ (k : ℕ). q.height * k) (sym wide) in
    block_room c.args.x c.args.y c.width-stride.result q.height g.R.Row.count r (length c.pixels_mut.result.now) size (omega arith) (omega arith)

pub returns : goal.returns
returns g c =
    let q = plane_of c.args.picture.now c.args.k in
    let wide : q.width ≡ c.width-stride.result = sym (c.width-stride.ensures.value ∙ ap (λ (p : Raster). p.width) c.plane-2.ensures) in
    let whole : IsWhole q = subst IsWhole c.plane-2.ensures c.width-stride.ensures.whole in
    let here : c.args.y * c.width-stride.result + c.args.x ≡ c.args.y * q.width + c.args.x = ap (λ (k : ℕ). c.args.y * k + c.args.x) (sym wide) in
    let done = c.write_rows_at.ensures.value q c.args.x c.args.y whole (sym c.pixels_mut.ensures.value) wide here c.requires.columns c.requires.rows in
    ap (with_plane c.args.picture.now c.args.k) (all_put q c.args.x c.args.y g.R.Row.count (length c.args.rows.now) (pixel_of g.R.Row.pixels c.args.rows.now) c.write_rows_at.new.pixels done
    (c.write_rows_at.ensures.len ∙ ap length c.pixels_mut.ensures.value))
