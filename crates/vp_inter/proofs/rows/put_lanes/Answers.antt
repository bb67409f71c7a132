use Rattle.std.proofs.Common.{◌≡◌, ℕ, ◌*◌, length, arith}
use Rattle.std.proofs.lemmas.Simd.{get_or-put_chunk_at, get_or-put_chunk_below}
use Rattle.vp_inter.proofs.rows.put_lanes.Goals as goal

pub returns-clause-here : goal.returns-clause-here
returns-clause-here g c k kin =
    let n : ℕ = g.row.N in
    let long : length c.args.row ≡ n = c.fits-row.0 in
    get_or-put_chunk_at (c.args.r * n) c.args.pixels.now c.args.row k 0 (omega arith) (omega arith)

pub returns-clause-before : goal.returns-clause-before
returns-clause-before g c i below = get_or-put_chunk_below (c.args.r * g.row.N) c.args.pixels.now c.args.row i 0 below
