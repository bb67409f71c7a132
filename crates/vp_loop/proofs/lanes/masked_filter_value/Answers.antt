use Rattle.std.proofs.Common.{ℕ, ℤ, Bool, w8, cond, ◌&&◌, nat_le, ap₂, ◌∙◌, pos, ◌*◌, ◌+◌, ◌/◌, slice_index}
use Rattle.vp_lanes.proofs.Bytes.{byte_lane}
use Rattle.vp_lanes.proofs.Shape.{unsigned_lanes}
use Rattle.vp_lanes.specs.Lane.{biased}
use Rattle.vp_loop.specs.Lanes.{line_of}
use Rattle.vp_loop.proofs.LaneLines.{filter_value_is}
use Rattle.vp_loop.proofs.lanes.masked_filter_value.Goals as goal

pub returns-clause-value : goal.returns-clause-value
returns-clause-value c j outer h e =
    c.masked.ensures j h
    ∙ ap₂ (λ (small : Bool) (z : ℤ). cond (small && nat_le (slice_index c.args.most j) c.args.interior) z (pos 0))
    (ap₂ (λ (x y : ℕ). nat_le (x * 2 + y / 2) c.args.limit) (c.lane_abs_diff-p0_q0.ensures j h) (c.lane_abs_diff-p1_q1.ensures j h))
    (c.filter_value-w.ensures j h ∙ filter_value_is outer (line_of c.args.l j) (biased 128 c.args.taps j) e)

pub returns-clause-bytes : goal.returns-clause-bytes
returns-clause-bytes c j h = record {
  p2 = byte_lane c.args.l.p2 (unsigned_lanes w8 16 c.args.l.p2 _ c.well_formed.0.1.1.1.0) j h;
  p1 = byte_lane c.args.l.p1 (unsigned_lanes w8 16 c.args.l.p1 _ c.well_formed.0.1.1.1.1.0) j h;
  p0 = byte_lane c.args.l.p0 (unsigned_lanes w8 16 c.args.l.p0 _ c.well_formed.0.1.1.1.1.1.0) j h;
  q0 = byte_lane c.args.l.q0 (unsigned_lanes w8 16 c.args.l.q0 _ c.well_formed.0.1.1.1.1.1.1.0) j h;
  q1 = byte_lane c.args.l.q1 (unsigned_lanes w8 16 c.args.l.q1 _ c.well_formed.0.1.1.1.1.1.1.1.0) j h;
  q2 = byte_lane c.args.l.q2 (unsigned_lanes w8 16 c.args.l.q2 _ c.well_formed.0.1.1.1.1.1.1.1.1.0) j h;
}
