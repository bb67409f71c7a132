use Rattle.std.proofs.Common.{◌∙◌, ◌≤◌, ℤ, pos, List, get_or, unsigned_abs, sym, ap, arith}
use Rattle.vp_transform.specs.Short.{cut}
use Rattle.vp_transform.specs.Transform.{idct}
use Rattle.vp_transform.proofs.Bounds.{idct-within}
use Rattle.vp_transform.proofs.Narrow.{cut-small}
use Rattle.vp_transform.proofs.short.idct_cut.Goals as goal

pub returns-then-is_narrow : goal.returns-then-is_narrow
returns-then-is_narrow c i below =
    let x = c.args.block.now in
    let z : ℤ = get_or (idct c.args.block.now) i (pos 0) in
    ap (λ (zs : List ℤ). get_or zs i (pos 0)) c.narrow_idct_cut.ensures ∙ sym (cut-small z (let l : unsigned_abs z ≤ 16384 = idct-within 4096 x (c.is_narrow.ensures c.if-is_narrow.true) i in omega (arith, l)))

pub returns-else-is_narrow : goal.returns-else-is_narrow
returns-else-is_narrow c i below = c.all_cut.ensures i below ∙ ap (λ (zs : List ℤ). cut (get_or zs i (pos 0))) c.wide_idct.ensures
