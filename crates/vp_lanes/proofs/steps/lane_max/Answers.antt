use Rattle.std.proofs.Common.{◌∙◌}
use Rattle.vp_lanes.proofs.Shape.{lanes_of, mapped, zipped, selected, lane_is}
use mir.Syntax.{w8, lt, mask, unsigned}
use lib.Lanes.{top}
use borrow.Rule.Simd.Lanes.{act2}
use borrow.Table.Row.{s_int}
use Rattle.vp_lanes.proofs.Bytes.{larger_is}
use Rattle.vp_lanes.proofs.steps.lane_max.Goals as goal

pub returns : goal.returns
returns c j h =
    let x = lanes_of 0 16 c.args.a c.fits-a.0 in
    let y = lanes_of 0 16 c.args.b c.fits-b.0 in
    let t = mapped (top 7) (zipped (act2 (mask (lt unsigned)) (s_int w8) (s_int w8) (s_int w8)) x y) in
    lane_is 0 (selected t y x) j h ∙ larger_is _ _
