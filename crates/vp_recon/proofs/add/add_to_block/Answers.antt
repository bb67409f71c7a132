use Rattle.std.proofs.Common.{◌∙◌, ◌*◌, ℕ, ap}
use Rattle.vp_recon.proofs.Words.{Raster, plane_of, residue_in, block_sum}
use Rattle.vp_recon.proofs.StripLemmas.{block_put, sums_room}
use Rattle.vp_recon.proofs.add.add_to_block.Goals as goal

pub add_to_strips-requires-clause-room : goal.add_to_strips-requires-clause-room
add_to_strips-requires-clause-room g c =
    sums_room (plane_of c.args.picture.now c.args.plane) c.args.x c.args.y g.row.ACROSS c.width-stride.result _
    (c.width-stride.ensures.value ∙ ap (λ (s : Raster). s.width) c.plane.ensures) c.pixels_mut-pixels.ensures.len c.requires.across c.requires.columns c.requires.rows

pub returns-then-ends-le1 : goal.returns-then-ends-le1
returns-then-ends-le1 g c =
    let n : ℕ = 4 * g.row.ACROSS in
    block_put c.args.picture.now c.args.plane c.args.x c.args.y n n c.width-stride.result (λ q x y. block_sum g.row.ACROSS q x y (residue_in c.args.inputs.now)) c.pixels_mut-pixels.result.now c.add_to_strips.new.pixels
    c.know_plane.ensures.whole (c.width-stride.ensures.value ∙ ap (λ (s : Raster). s.width) c.plane.ensures) c.pixels_mut-pixels.ensures.value c.requires.columns c.requires.rows c.add_to_strips.ensures

pub add_to_strips-requires-else-ends-le1-clause-room : goal.add_to_strips-requires-else-ends-le1-clause-room
add_to_strips-requires-else-ends-le1-clause-room g c =
    sums_room (plane_of c.args.picture.now c.args.plane) c.args.x c.args.y g.row.ACROSS c.width-stride.result _
    (c.width-stride.ensures.value ∙ ap (λ (s : Raster). s.width) c.plane.ensures) c.pixels_mut-pixels.ensures.len c.requires.across c.requires.columns c.requires.rows

pub returns-else-ends-le1 : goal.returns-else-ends-le1
returns-else-ends-le1 g c =
    let n : ℕ = 4 * g.row.ACROSS in
    block_put c.args.picture.now c.args.plane c.args.x c.args.y n n c.width-stride.result (λ q x y. block_sum g.row.ACROSS q x y (residue_in c.args.inputs.now)) c.pixels_mut-pixels.result.now c.add_to_strips-else-ends-le1.new.pixels
    c.know_plane.ensures.whole (c.width-stride.ensures.value ∙ ap (λ (s : Raster). s.width) c.plane.ensures) c.pixels_mut-pixels.ensures.value c.requires.columns c.requires.rows c.add_to_strips-else-ends-le1.ensures
