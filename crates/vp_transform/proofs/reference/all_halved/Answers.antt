use Rattle.std.proofs.Common.{rules, pos, ◌+ℤ◌, ap, arith}
use Rattle.vp_transform.specs.Fits.{Fits}
use Rattle.vp_transform.proofs.Along.{get}
use Rattle.vp_transform.proofs.Products.{mapped_is, more_fits}
use Rattle.vp_transform.proofs.Words.{read, fits-along}
use Rattle.vp_transform.proofs.reference.all_halved.Goals as goal
use lib.Signed.{shr_z as floor_div}

pub halved-requires : goal.halved-requires
halved-requires c =
    let x = c.args.x.now in
    let f : Fits (get x c.loop-i.i) = search rules in
    fits-along (ap (λ z. z +ℤ pos 1) (read _ f)) (more_fits (get x c.loop-i.i) 1 (omega arith) (c.requires c.loop-i.i c.loop-i-test.true))

pub returns : goal.returns
returns c = mapped_is (λ z. floor_div (z +ℤ pos 1) 2) c.loop-i.block c.args.x.now c.loop-i.invariant.size c.told-x (λ k h. c.loop-i.invariant.done k (omega (arith, c.loop-i-test.false)))
