use Rattle.std.proofs.Common.{◌∙◌, ap, ℕ, Bool, cond, nat_lt, ◌+◌, ◌%◌, get_or, pos, ◌-ℤ◌}
use Rattle.vp_lanes.proofs.Shape.{lanes_of, mapped, zipped, selected, splatted, lane_is}
use mir.Syntax.{w8, lt, mask, unsigned, wrap_add}
use lib.Lanes.{top}
use borrow.Rule.Simd.Lanes.{act2}
use borrow.Table.Row.{s_int}
use Rattle.vp_lanes.proofs.Bytes.{one_top, either_is}
use Rattle.vp_lanes.proofs.steps.either.Goals as goal

pub returns : goal.returns
returns c j h =
    let a = zipped (act2 wrap_add (s_int w8) (s_int w8) (s_int w8)) (lanes_of 0 16 c.args.a c.fits-a.0) (splatted 16 11) in
    let b = lanes_of 0 16 c.args.b c.fits-b.0 in
    let high = mapped (top 7) (zipped (act2 (mask (lt unsigned)) (s_int w8) (s_int w8) (s_int w8)) (splatted 16 c.args.threshold) (lanes_of 0 16 c.args.apart c.fits-apart.0)) in
    ap (λ (n : ℕ). pos n -ℤ pos 27) (lane_is 0 (selected high a b) j h
    ∙ ap (λ (t : Bool). cond t ((get_or c.args.a j 0 + 11) % 256) (get_or c.args.b j 0)) (one_top _)) ∙ either_is (nat_lt c.args.threshold (get_or c.args.apart j 0)) (get_or c.args.a j 0) (get_or c.args.b j 0) (c.requires j h)
