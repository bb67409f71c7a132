use Rattle.std.proofs.Common.{rules, ◌≡◌, ap, ◌∙◌, arith, of_z, w64}
use Rattle.vp_transform.specs.Fits.{Fits}
use Rattle.vp_transform.proofs.Along.{get}
use Rattle.vp_transform.proofs.Narrow.{all_bits, each_small}
use Rattle.vp_transform.proofs.Words.{read}
use Rattle.vp_transform.proofs.lanes.is_narrow.Goals as goal

pub loop-i-preserved : goal.loop-i-preserved
loop-i-preserved c =
    let x = c.args.block.now in
    let f : Fits (get x c.loop-i.i) = search rules in
    let e : c.cast_unsigned.result ≡ of_z w64 (get x c.loop-i.i) = c.cast_unsigned.ensures ∙ ap (λ z. of_z w64 z) (read _ f) in
    all_bits c.args.bound x c.loop-i.i c.loop-i.bits _ c.loop-i.invariant (record { fits = f; raised = omega (arith, e) })

pub returns : goal.returns
returns c e = each_small c.args.bound c.loop-i.bits c.args.block.now c.requires (λ k l. c.loop-i.invariant k (omega (arith, c.told-block, c.loop-i-test.false))) (search rules)
