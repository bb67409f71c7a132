use Rattle.std.proofs.Common.{◌≡◌, length, arith}
use Rattle.vp_loop.proofs.TransposeLemmas.{below_sixteen, joined_is}
use Rattle.vp_loop.proofs.transpose.untranspose.Goals as goal

pub returns-clause-value : goal.returns-clause-value
returns-clause-value c =
    let l = c.args.l in
    let e = joined_is l.p3 l.p2 l.p1 l.p0 l.q0 l.q1 l.q2 l.q3 in
    let l3 : length c.args.l.p3 ≡ 16 = c.well_formed.0.1.1.0.1.0.1 in
    let l2 : length c.args.l.p2 ≡ 16 = c.well_formed.0.1.1.1.0.1.0.1 in
    let l1 : length c.args.l.p1 ≡ 16 = c.well_formed.0.1.1.1.1.0.1.0.1 in
    let l0 : length c.args.l.p0 ≡ 16 = c.well_formed.0.1.1.1.1.1.0.1.0.1 in
    below_sixteen _
    (e 0 l3 l2 l1 l0 (omega arith)) (e 1 l3 l2 l1 l0 (omega arith)) (e 2 l3 l2 l1 l0 (omega arith)) (e 3 l3 l2 l1 l0 (omega arith))
    (e 4 l3 l2 l1 l0 (omega arith)) (e 5 l3 l2 l1 l0 (omega arith)) (e 6 l3 l2 l1 l0 (omega arith)) (e 7 l3 l2 l1 l0 (omega arith))
    (e 8 l3 l2 l1 l0 (omega arith)) (e 9 l3 l2 l1 l0 (omega arith)) (e 10 l3 l2 l1 l0 (omega arith)) (e 11 l3 l2 l1 l0 (omega arith))
    (e 12 l3 l2 l1 l0 (omega arith)) (e 13 l3 l2 l1 l0 (omega arith)) (e 14 l3 l2 l1 l0 (omega arith)) (e 15 l3 l2 l1 l0 (omega arith))
