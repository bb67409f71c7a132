use Rattle.std.proofs.Common.{arith}
use Rattle.vp_lines.proofs.ListingLemmas.{no_lines, some_more}
use Rattle.vp_lines.proofs.listing.put_packets.Goals as goal

pub loop-number-init : goal.loop-number-init
loop-number-init g c = (omega arith, no_lines _ _)

pub loop-number-preserved : goal.loop-number-preserved
loop-number-preserved g c = (
  omega arith,
  some_more c.args.packets.now c.loop-number.number _ _ _ _ c.loop-number.invariant.1 c.in_ok-put_lines.ensures,
)
