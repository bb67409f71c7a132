use Rattle.std.proofs.Common.{◌≡◌, ◌∙◌, ℕ, ◌*◌, ◌≤◌, List, length, sum, arith, w16, zero-add}
use Rattle.std.proofs.lemmas.Simd.{sum_fits, fold-sum}
use lib.Lanes.{sum_l}
use Rattle.vp_intra.proofs.SumLemmas.{widened, sum-widened, sum_of_bytes}
use Rattle.vp_intra.proofs.edges.sum_of_edge.Goals as goal

pub overflow_add-result : goal.overflow_add-result
overflow_add-result g c =
    let xs : List ℕ = c.args.edge in
    let s : sum xs ≤ 255 * length xs = sum_of_bytes xs c.fits-edge.1 in
    let n : length xs ≡ g.row.N = c.fits-edge.0 in
    sum_fits w16 0 (widened xs) (omega (arith, sum-widened xs))

pub returns-clause-value : goal.returns-clause-value
returns-clause-value g c =
    fold-sum 0 (widened c.args.edge) ∙ zero-add (sum_l (widened c.args.edge)) ∙ sum-widened c.args.edge

pub returns-clause-bound : goal.returns-clause-bound
returns-clause-bound g c =
    let xs : List ℕ = c.args.edge in
    let s : sum xs ≤ 255 * length xs = sum_of_bytes xs c.fits-edge.1 in
    let n : length xs ≡ g.row.N = c.fits-edge.0 in
    let e = returns-clause-value g c in
    omega (arith, e)
