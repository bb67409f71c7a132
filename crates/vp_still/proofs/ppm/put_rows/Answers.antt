use Rattle.std.proofs.Common.{◌∙◌}
use Rattle.vp_still.specs.Ppm.{row_in}
use Rattle.vp_still.proofs.PpmLemmas.{piece_more, row_is}
use Rattle.vp_still.proofs.ppm.put_rows.Goals as goal

pub loop-y-preserved : goal.loop-y-preserved
loop-y-preserved c =
    let w = c.args.dim.w in
    let h = c.args.dim.h in
    let bytes = c.args.pixels.now in
    let row = row_is w h c.from.result c.from-2.result c.loop-y.y bytes c.plane_at-luma.result.now c.plane_at-u.result.now c.plane_at-v.result.now
    c.row_at.result.now c.row_at-u_row.result.now c.row_at-v_row.result.now c.from.ensures c.from-2.ensures
    c.plane_at-luma.ensures.value c.plane_at-u.ensures.value c.plane_at-v.ensures.value c.row_at.ensures.value c.row_at-u_row.ensures.value c.row_at-v_row.ensures.value in
    c.in_ok-put_row.ensures ∙ piece_more (row_in w h bytes) c.args.out.now.items c.loop-y.out.items _ c.loop-y.y c.loop-y.invariant row
