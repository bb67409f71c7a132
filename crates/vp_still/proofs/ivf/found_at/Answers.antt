use Rattle.vp_still.proofs.PixelLemmas.{in_range, not_none, whole_at}
use Rattle.vp_still.proofs.ivf.found_at.Goals as goal

pub unreachable-requires : goal.unreachable-requires
unreachable-requires c =
    let stream = c.args.stream.now in
    let none = rw c.in_default.is at c.packet.ensures.value in
    not_none stream.reading.packets c.args.number none
    (in_range stream.limits stream.reading.packets c.args.number c.args.dim.w c.args.dim.h c.args.pixels c.requires)

pub invariant_of-result : goal.invariant_of-result
invariant_of-result c = record {
  whole = whole_at c.args.stream.now.limits c.args.stream.now.reading.packets c.args.number c.args.dim.w c.args.dim.h c.args.pixels c.requires;
}
