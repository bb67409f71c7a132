use Rattle.std.proofs.Common.{◌≡◌, ◌*◌, ◌%◌, ◌^◌, get_or, ◌∙◌, arith, w32}
use mir.Syntax.{wrap_mul}
use borrow.Rule.Simd.Lanes.{act2}
use borrow.Table.Row.{s_int}
use Rattle.vp_lanes.proofs.Shape.{lanes_of, lane_is, zipped}
use Rattle.vp_search.proofs.LaneLemmas.{square_small}
use Rattle.vp_search.proofs.kernel.squared.Goals as goal

pub returns-clause-value : goal.returns-clause-value
returns-clause-value c j h =
    let x = square_small (get_or c.args.a j 0) (c.requires j h) in
    let e : (get_or c.args.a j 0 * get_or c.args.a j 0) % 2 ^ 32 ≡ get_or c.args.a j 0 * get_or c.args.a j 0 = omega arith in
    lane_is 0 (zipped (act2 wrap_mul (s_int w32) (s_int w32) (s_int w32)) (lanes_of 0 16 c.args.a c.fits-a.0) (lanes_of 0 16 c.args.a c.fits-a.0)) j h ∙ e

pub returns-clause-range : goal.returns-clause-range
returns-clause-range c j h =
    let x = square_small (get_or c.args.a j 0) (c.requires j h) in
    let e = returns-clause-value c j h in
    omega arith
