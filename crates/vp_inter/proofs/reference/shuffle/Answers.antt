use Rattle.std.proofs.Common.{◌≡◌, ◌∙◌, ℕ, ◌+◌, ◌*◌, ◌/◌, ◌<◌, get_or, refl, ap, arith, w8}
use Rattle.std.proofs.lemmas.Simd.{SwzOk-from_below, Each1-from_get_or, get_or-swz_l_below}
use Rattle.vp_inter.proofs.reference.shuffle.Goals as goal

pub swizzle : goal.swizzle
swizzle c = SwzOk-from_below w8 16 1 16 0 c.args.indices refl (omega (arith, c.fits-indices.0)) (Each1-from_get_or (λ (k : ℕ). k < 16) c.args.indices 0 (λ k h. c.requires k (omega (arith, c.fits-indices.0))))

pub returns : goal.returns
returns c j h =
    get_or-swz_l_below w8 16 c.args.lanes 0 c.args.indices j (omega (arith, c.fits-indices.0)) (c.requires j h)
    ∙ ap (λ (k : ℕ). get_or c.args.lanes k 0) (let e : 16 * ((0 + j) / 16) + get_or c.args.indices j 0 ≡ get_or c.args.indices j 0 = omega arith in e)
