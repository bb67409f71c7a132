use Rattle.std.proofs.Common.{◌∙◌, pos, ◌+ℤ◌, arith}
use Rattle.std.proofs.lemmas.Int.{ints}
use Rattle.vp_inter.specs.Patches.{raster}
use Rattle.vp_inter.proofs.ReferenceLemmas.{line_inside}
use Rattle.vp_inter.proofs.reference.plain_row.Goals as goal

pub returns-then-inside : goal.returns-then-inside
returns-then-inside g c k below =
    let q = c.args.patch.now in
    let columns = (c.requires.inside c.if-inside.true).0 in
    c.load.ensures k below
    ∙ line_inside (raster q) c.row.result.now q.left (q.top +ℤ pos c.args.i) _ k c.row.ensures.value c.row.ensures.len (omega (arith, ints)) (omega (arith, ints))
