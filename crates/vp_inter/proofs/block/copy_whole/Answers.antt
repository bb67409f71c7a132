use Rattle.std.proofs.Common.{◌∙◌, ap, refl}
use Rattle.vp_base.specs.Image.{plane_of, with_plane}
use Rattle.vp_inter.proofs.PassLemmas.{copied}
use Rattle.vp_inter.proofs.block.copy_whole.Goals as goal

pub returns-clause-written : goal.returns-clause-written
returns-clause-written g c version done =
    let from = c.args.reference.now in
    let at = c.in-Some.ensures in
    c.copy_block.ensures.value
    ∙ ap (with_plane c.args.picture.now c.args.k) (copied version g.row.N c.args.x c.args.y c.in-Some.column c.in-Some.row c.args.vector from from (plane_of c.args.picture.now c.args.k) refl
    at.inside.0 at.inside.1 at.place.0 at.place.1 at.whole.0 at.whole.1 c.copy_block.ensures.bytes)
