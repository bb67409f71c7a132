use Rattle.std.proofs.Common.{◌≡◌, ◌∙◌, ℕ, Bool, cond, max, ap, arith, w16}
use Rattle.vp_lanes.proofs.Shape.{lanes_of, mapped, zipped, selected, lane_is}
use mir.Syntax.{lt, mask, unsigned}
use lib.Dec.{ltb}
use lib.Lanes.{top}
use borrow.Rule.Simd.Lanes.{act2}
use borrow.Table.Row.{s_int}
use Rattle.vp_quant.proofs.Reciprocals.{one_top16}
use Rattle.vp_quant.proofs.magnitudes.larger.Goals as goal

larger_is : (a b : ℕ) → cond (top 15 (cond (ltb a b) 65535 0)) b a ≡ max a b
larger_is a b = ap (λ (t : Bool). cond t b a) (one_top16 (ltb a b)) ∙ (let e : cond (ltb a b) b a ≡ max a b = grind arith in e)

pub returns : goal.returns
returns g c j h =
    let x = lanes_of 0 g.row.N c.args.a c.fits-a.0 in
    let y = lanes_of 0 g.row.N c.args.b c.fits-b.0 in
    let t = mapped (top 15) (zipped (act2 (mask (lt unsigned)) (s_int w16) (s_int w16) (s_int w16)) x y) in
    lane_is 0 (selected t y x) j h ∙ larger_is _ _
