use Rattle.std.proofs.Common.{◌∙◌, ◌+◌, get_or, ap, arith}
use Rattle.std.proofs.lemmas.Simd.{get_or-put_chunk_at, get_or-put_chunk_below, get_or-put_chunk_above}
use Rattle.vp_search.proofs.coarse.put_coarse.Goals as goal

pub returns-then-not-is_empty-clause-here : goal.returns-then-not-is_empty-clause-here
returns-then-not-is_empty-clause-here c some j h =
    ap (λ l. get_or l (c.args.at + j) 0) c.store8.ensures
    ∙ get_or-put_chunk_at c.args.at c.args.coarse.now c.coarse_lanes.result j 0 (omega arith) (omega arith)
    ∙ c.coarse_lanes.ensures.value j h

pub returns-then-not-is_empty-clause-before : goal.returns-then-not-is_empty-clause-before
returns-then-not-is_empty-clause-before c k h =
    ap (λ l. get_or l k 0) c.store8.ensures ∙ get_or-put_chunk_below c.args.at c.args.coarse.now c.coarse_lanes.result k 0 h

pub returns-then-not-is_empty-clause-after : goal.returns-then-not-is_empty-clause-after
returns-then-not-is_empty-clause-after c k h =
    ap (λ l. get_or l k 0) c.store8.ensures ∙ get_or-put_chunk_above c.args.at c.args.coarse.now c.coarse_lanes.result k 0 (omega arith)
