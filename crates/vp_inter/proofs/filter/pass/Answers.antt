use Rattle.std.proofs.Common.{◌∙◌, ◌+◌, ◌*◌, get_or}
use Rattle.vp_lanes.proofs.Signed.{signed_param, signed_out}
use Rattle.vp_inter.proofs.NarrowLemmas.{whole_is, inner_is, middle_is}
use Rattle.vp_inter.proofs.filter.pass.Goals as goal

pub returns : goal.returns
returns g c j h =
    c.rounded_pixels-2.ensures j h
    ∙ middle_is c.args.weights.now (λ k. get_or c.args.s.now (c.args.at + k * c.args.step + j) 0) _ (c.requires.few.0 c.if-this-ge6.false) (c.requires.few.1 c.if-this-ge4.false)
    (signed_out (signed_param g.row.N c.middle.result _ c.middle.type_inv) j h ∙ c.middle.ensures j h)

pub returns-then-this-ge4 : goal.returns-then-this-ge4
returns-then-this-ge4 g c j h =
    c.rounded_pixels-then-this-ge4.ensures j h
    ∙ inner_is c.args.weights.now (λ k. get_or c.args.s.now (c.args.at + k * c.args.step + j) 0) _ (c.requires.few.0 c.if-this-ge6.false)
    (signed_out (signed_param g.row.N c.inner.result _ c.inner.type_inv) j h ∙ c.inner.ensures j h)

pub returns-then-this-ge6 : goal.returns-then-this-ge6
returns-then-this-ge6 g c j h =
    c.rounded_pixels.ensures j h
    ∙ whole_is c.args.weights.now (λ k. get_or c.args.s.now (c.args.at + k * c.args.step + j) 0) _
    (signed_out (signed_param g.row.N c.whole_sum.result _ c.whole_sum.type_inv) j h ∙ c.whole_sum.ensures j h)
