use Rattle.std.proofs.Common.{◌+◌, ◌*◌, ap, sym, ◌∙◌, add-zero}
use Rattle.vp_transform.proofs.Along.{get}
use Rattle.vp_transform.proofs.Vectors.{small_fits, small_read, below_four}
use Rattle.vp_transform.proofs.lanes.row.Goals as goal

pub overflow_cast-result : goal.overflow_cast-result
overflow_cast-result c =
    let x = c.args.block.now in
    let k = 4 * c.args.r in
    let s = c.requires.small in
    (small_fits x s k, (small_fits x s (k + 1), (small_fits x s (k + 2), (small_fits x s (k + 3), tt))))

pub returns : goal.returns
returns c =
    let x = c.args.block.now in
    let k = 4 * c.args.r in
    let s = c.requires.small in
    below_four _ (small_read x s k ∙ ap (λ i. get x i) (sym (add-zero (4 * c.args.r)))) (small_read x s (k + 1)) (small_read x s (k + 2)) (small_read x s (k + 3))
