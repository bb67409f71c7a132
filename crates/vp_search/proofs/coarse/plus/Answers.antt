use Rattle.std.proofs.Common.{◌∙◌, Fits}
use Rattle.vp_lanes.proofs.Shape.{lane_fits, lanes_of, mapped, zipped, selected, lane_is}
use mir.Syntax.{w8, lt, mask, unsigned, wrap_add, bit_not}
use lib.Lanes.{top}
use borrow.Rule.Simd.Lanes.{act1, act2}
use borrow.Table.Row.{s_int}
use Rattle.vp_lanes.proofs.Bytes.{sum_is}
use Rattle.vp_search.proofs.coarse.plus.Goals as goal

pub returns : goal.returns
returns c j h =
    let x = lanes_of 0 16 c.args.a c.fits-a.0 in
    let y = lanes_of 0 16 c.args.b c.fits-b.0 in
    let n = mapped (act1 bit_not (s_int w8) (s_int w8)) x in
    let t = mapped (top 7) (zipped (act2 (mask (lt unsigned)) (s_int w8) (s_int w8) (s_int w8)) y n) in
    lane_is 0 (zipped (act2 wrap_add (s_int w8) (s_int w8) (s_int w8)) x (selected t y n)) j h
    ∙ sum_is _ _ (lane_fits (Fits w8) 0 16 c.args.a c.fits-a.0 c.fits-a.1 j h).fits (lane_fits (Fits w8) 0 16 c.args.b c.fits-b.0 c.fits-b.1 j h).fits
