use Rattle.std.proofs.Common.{◌∙◌, ℕ}
use Rattle.std.proofs.lemmas.List.{length-replicate}
use Rattle.vp_inter.specs.Inter.{inter_pixel}
use Rattle.vp_inter.proofs.WrittenLemmas.{in_array}
use Rattle.vp_inter.proofs.block.predict_block.Goals as goal

pub returns : goal.returns
returns g c =
    in_array g.row.N g.row.N _ c.predict.new.pixels (inter_pixel c.args.version c.args.plane.now c.args.x c.args.y c.args.vector) (length-replicate {A = ℕ} g.row.M 0 ∙ c.requires.whole)
    (c.predict.ensures c.args.plane.now c.args.x c.args.y c.patch_for-patch.ensures)
