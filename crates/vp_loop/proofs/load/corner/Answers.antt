use Rattle.std.proofs.Common.{◌≡◌, ◌∙◌, ℕ, ◌*◌, ap, sym, arith, length}
use Rattle.vp_loop.proofs.RowReads.{block_room, corner_fits}
use Rattle.vp_loop.proofs.load.corner.Goals as goal

pub rows8-requires : goal.rows8-requires
rows8-requires c =
    let p = c.args.plane.now in
    let w = c.width-stride.result in
    let wide : w ≡ p.width = c.width-stride.ensures.value in
    let fits = corner_fits c.args.edge.orientation c.args.edge.x c.args.edge.y p c.requires in
    let columns = fits.0 in
    let rows = fits.1 in
    let size : length c.pixels.result.now ≡ p.height * w = c.pixels.ensures.len ∙ ap (λ (k : ℕ). p.height * k) (sym wide) in
    record { room = block_room c.args.edge.x c.args.edge.y w p.height 8 7 (length c.pixels.result.now) size (omega arith) (omega arith) }
