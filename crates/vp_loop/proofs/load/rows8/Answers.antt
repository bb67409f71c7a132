use Rattle.std.proofs.Common.{◌≡◌, ◌+◌, ◌*◌, [], ◌∷◌, slice_index, slice_index_or, arith}
use Rattle.vp_loop.proofs.RowReads.{at_row}
use Rattle.vp_loop.proofs.TransposeLemmas.{below_eight}
use Rattle.vp_loop.proofs.load.rows8.Goals as goal

pub returns : goal.returns
returns c r k h below =
    let ps = c.args.pixels.now in
    let a = c.args.at in
    let s = c.args.stride in
    below_eight (λ r. slice_index (slice_index_or (c.load8.result ∷ c.load8-2.result ∷ c.load8-3.result ∷ c.load8-4.result ∷ c.load8-5.result ∷ c.load8-6.result ∷ c.load8-7.result ∷ c.load8-8.result ∷ []) r []) k ≡ slice_index ps (a + r * s + k))
    (at_row ps c.load8.result 8 (a) (a + 0 * s + k) k c.load8.ensures below (omega arith))
    (at_row ps c.load8-2.result 8 (a + s) (a + 1 * s + k) k c.load8-2.ensures below (omega arith))
    (at_row ps c.load8-3.result 8 (a + s + s) (a + 2 * s + k) k c.load8-3.ensures below (omega arith))
    (at_row ps c.load8-4.result 8 (a + s + s + s) (a + 3 * s + k) k c.load8-4.ensures below (omega arith))
    (at_row ps c.load8-5.result 8 (a + s + s + s + s) (a + 4 * s + k) k c.load8-5.ensures below (omega arith))
    (at_row ps c.load8-6.result 8 (a + s + s + s + s + s) (a + 5 * s + k) k c.load8-6.ensures below (omega arith))
    (at_row ps c.load8-7.result 8 (a + s + s + s + s + s + s) (a + 6 * s + k) k c.load8-7.ensures below (omega arith))
    (at_row ps c.load8-8.result 8 (a + s + s + s + s + s + s + s) (a + 7 * s + k) k c.load8-8.ensures below (omega arith))
    r h
