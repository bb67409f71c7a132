use Rattle.std.proofs.Common.{w16, get_or}
use Rattle.vp_lanes.proofs.Shape.{lanes_of, mapped, zipped, splatted}
use mir.Syntax.{unsigned, lt, mask}
use borrow.Rule.Simd.Lanes.{act2}
use borrow.Table.Row.{s_int}
use lib.Lanes.{top}
use Rattle.vp_quant.proofs.Reciprocals.{all_true, true_all, less_from, less_to}
use Rattle.vp_quant.proofs.magnitudes.eight_are_below.Goals as goal

pub returns-clause-below : goal.returns-clause-below
returns-clause-below c full j h =
    less_from (get_or c.args.v j 0) c.args.bound
    (all_true (mapped (top 15) (zipped (act2 (mask (lt unsigned)) (s_int w16) (s_int w16) (s_int w16)) (lanes_of 0 8 c.args.v c.fits-v.0) (splatted 8 c.args.bound))) full j h)

pub returns-clause-all : goal.returns-clause-all
returns-clause-all c all =
    true_all (mapped (top 15) (zipped (act2 (mask (lt unsigned)) (s_int w16) (s_int w16) (s_int w16)) (lanes_of 0 8 c.args.v c.fits-v.0) (splatted 8 c.args.bound)))
    (λ j h. less_to (get_or c.args.v j 0) c.args.bound (all j h))
