use Rattle.vp_lines.proofs.ListingLemmas.{next_fault}
use Rattle.vp_lines.proofs.listing.print_fault_lines.Goals as goal

pub loop-packet-preserved : goal.loop-packet-preserved
loop-packet-preserved g c =
    next_fault c.print_fault.result _ _ _ c.args.faults.now c.loop-packet.packet-index _ c.loop-packet.well c.is_ok-well.result
    c.loop-packet-test.true c.is_ok-well.ensures.value c.loop-packet.invariant c.print_fault.ensures
