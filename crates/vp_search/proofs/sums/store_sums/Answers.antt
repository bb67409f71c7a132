use Rattle.std.proofs.Common.{arith}
use Rattle.std.proofs.lemmas.Simd.{get_or-put_chunk_at, get_or-put_chunk_below, get_or-put_chunk_above}
use Rattle.vp_search.proofs.sums.store_sums.Goals as goal

pub returns-clause-here : goal.returns-clause-here
returns-clause-here c j h =
    get_or-put_chunk_at c.args.at c.args.s.now c.args.lanes j 0 (omega arith) (omega arith)

pub returns-clause-before : goal.returns-clause-before
returns-clause-before c k h = get_or-put_chunk_below c.args.at c.args.s.now c.args.lanes k 0 h

pub returns-clause-after : goal.returns-clause-after
returns-clause-after c k h =
    get_or-put_chunk_above c.args.at c.args.s.now c.args.lanes k 0 (omega arith)
