use Rattle.std.proofs.Common.{◌+◌, ◌*◌, ap, sym, ◌∙◌, add-zero}
use Rattle.vp_transform.proofs.Along.{get}
use Rattle.vp_transform.proofs.Vectors.{short_read, below_four}
use Rattle.vp_transform.proofs.lanes.short_row.Goals as goal

pub returns : goal.returns
returns c =
    let x = c.args.block.now in
    let k = 4 * c.args.r in
    let s = c.requires.small in
    below_four _ (short_read x s k ∙ ap (λ i. get x i) (sym (add-zero (4 * c.args.r)))) (short_read x s (k + 1)) (short_read x s (k + 2)) (short_read x s (k + 3))
