use Rattle.vp_hints.proofs.SeenLemmas.{kept, extended}
use Rattle.vp_hints.proofs.seen.keep.Goals as goal

pub returns : goal.returns
returns c =
    kept c.args.head.now.items c.args.bytes.now _ c.remaining_capacity.result c.min-room.result c.remaining_capacity.ensures c.min-room.ensures
    (extended _ _ _ c.remaining_capacity.result c.min-room.result _ c.remaining_capacity.ensures c.min-room.ensures c.try_extend_from_slice.ensures.variant c.try_extend_from_slice.ensures.ok)
