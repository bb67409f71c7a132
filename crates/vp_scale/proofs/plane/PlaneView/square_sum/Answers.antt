use Rattle.std.proofs.Common.{arith}
use Rattle.vp_scale.proofs.RunLemmas.{square_none, square_more}
use Rattle.vp_scale.proofs.plane.PlaneView.square_sum.Goals as goal

pub loop-r-init : goal.loop-r-init
loop-r-init c = record { value = square_none c.args.k c.args.self.now c.args.x c.args.y; bound = omega arith }

pub loop-r-preserved : goal.loop-r-preserved
loop-r-preserved c =
    let long = c.row.ensures.len in
    let some = c.row.ensures.some in
    record {
      value = square_more c.args.k c.args.self.now c.args.x c.args.y c.loop-r.r c.loop-r.total c.run_sum-total.result c.row.result.now (omega arith) c.row.ensures.value long c.loop-r.invariant.value c.run_sum-total.ensures.value;
      bound = omega (arith, c.loop-r.invariant.bound, c.run_sum-total.ensures.bound);
    }
