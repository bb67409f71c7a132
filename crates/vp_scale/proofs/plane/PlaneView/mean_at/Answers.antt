use Rattle.std.proofs.Common.{arith}
use Rattle.vp_scale.proofs.SideLemmas.{begins_inside, mean_is}
use Rattle.vp_scale.proofs.plane.PlaneView.mean_at.Goals as goal

pub overflow_mul-x : goal.overflow_mul-x
overflow_mul-x c =
    let most = c.width.ensures.most in
    let value = c.width.ensures.value in
    let inside = begins_inside c.args.k c.args.x c.args.self.now.width c.requires.factor c.requires.column in
    omega arith

pub overflow_mul-y : goal.overflow_mul-y
overflow_mul-y c =
    let most = c.height.ensures.most in
    let value = c.height.ensures.value in
    let inside = begins_inside c.args.k c.args.y c.args.self.now.height c.requires.factor c.requires.row in
    omega arith

pub returns : goal.returns
returns c = mean_is c.args.k c.square_sum-total.result c.args.x c.args.y c.args.self.now c.square_sum-total.ensures.value
