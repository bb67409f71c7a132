use Rattle.std.proofs.Common.{◌+◌, ◌*◌, arith}
use Rattle.vp_loop.proofs.RowReads.{at_row}
use Rattle.vp_loop.proofs.load.rows16.Goals as goal

pub returns : goal.returns
returns c j h =
    let ps = c.args.pixels.now in
    let a = c.args.at in
    let s = c.args.stride in
    let e0 = at_row ps c.load16.result 16 (a) (a + 0 * s + j) j c.load16.ensures h (omega arith) in
    let e1 = at_row ps c.load16-2.result 16 (a + s) (a + 1 * s + j) j c.load16-2.ensures h (omega arith) in
    let e2 = at_row ps c.load16-3.result 16 (a + s + s) (a + 2 * s + j) j c.load16-3.ensures h (omega arith) in
    let e3 = at_row ps c.load16-4.result 16 (a + s + s + s) (a + 3 * s + j) j c.load16-4.ensures h (omega arith) in
    let e4 = at_row ps c.load16-5.result 16 (a + s + s + s + s) (a + 4 * s + j) j c.load16-5.ensures h (omega arith) in
    let e5 = at_row ps c.load16-6.result 16 (a + s + s + s + s + s) (a + 5 * s + j) j c.load16-6.ensures h (omega arith) in
    let e6 = at_row ps c.load16-7.result 16 (a + s + s + s + s + s + s) (a + 6 * s + j) j c.load16-7.ensures h (omega arith) in
    let e7 = at_row ps c.load16-8.result 16 (a + s + s + s + s + s + s + s) (a + 7 * s + j) j c.load16-8.ensures h (omega arith) in
    λ i. record { p3 = e0 i; p2 = e1 i; p1 = e2 i; p0 = e3 i; q0 = e4 i; q1 = e5 i; q2 = e6 i; q3 = e7 i }
