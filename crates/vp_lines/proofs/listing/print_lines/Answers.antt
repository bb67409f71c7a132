use Rattle.std.proofs.Common.{refl}
use Rattle.vp_lines.proofs.ListingLemmas.{none_from, one_more}
use Rattle.vp_lines.proofs.listing.print_lines.Goals as goal

pub loop-place-init : goal.loop-place-init
loop-place-init g c = none_from _ _ _

pub loop-place-preserved : goal.loop-place-preserved
loop-place-preserved g c =
    one_more c.args.packets.now c.args.first c.loop-place.place _ _ _ _ refl c.loop-place.invariant c.in_ok-print_packet.ensures
