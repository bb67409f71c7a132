use Rattle.std.proofs.Common.{◌∙◌, sym, ap}
use Rattle.vp_recon.proofs.Words.{plane_of, with_plane, with_plane-plane_of, residue_in}
use Rattle.vp_recon.proofs.ResidueLemmas.{block_alone}
use Rattle.vp_recon.proofs.add.add_chroma_plane.Goals as goal

pub returns-then-ends-eq0 : goal.returns-then-ends-eq0
returns-then-ends-eq0 c =
    let p = c.args.picture.now in
    sym (with_plane-plane_of p c.args.plane)
    ∙ ap (with_plane p c.args.plane) (block_alone (plane_of c.args.picture.now c.args.plane) c.args.x c.args.y 2 (residue_in c.args.inputs.now) c.know_plane.ensures.whole c.know_plane.ensures.bytes
    (c.requires.none c.if-ends-eq0.true))
