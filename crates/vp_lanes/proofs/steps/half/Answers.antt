use Rattle.std.proofs.Common.{◌∙◌, ap, ℕ, pos, ◌-ℤ◌}
use Rattle.vp_lanes.proofs.Shape.{lanes_of, zipped, splatted, lane_is}
use mir.Syntax.{w8, shr, unsigned, wrap_add}
use borrow.Rule.Simd.Lanes.{act2}
use borrow.Table.Row.{s_int}
use Rattle.vp_lanes.proofs.Bytes.{half_is}
use Rattle.vp_lanes.proofs.steps.half.Goals as goal

pub returns : goal.returns
returns c j h =
    let one_more = zipped (act2 wrap_add (s_int w8) (s_int w8) (s_int w8)) (lanes_of 0 16 c.args.f c.fits-f.0) (splatted 16 1) in
    ap (λ (n : ℕ). pos n -ℤ pos 8) (lane_is 0 (zipped (act2 (shr unsigned) (s_int w8) (s_int w8) (s_int w8)) one_more (splatted 16 1)) j h)
    ∙ half_is _ (c.requires j h)
