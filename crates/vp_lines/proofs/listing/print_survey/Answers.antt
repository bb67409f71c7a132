use Rattle.vp_lines.proofs.ListingLemmas.{whole_text}
use Rattle.vp_lines.proofs.listing.print_survey.Goals as goal

pub returns : goal.returns
returns g c = whole_text c.args.survey.now _ _ _ c.in_ok-put_head.ensures (rw c.as_slice.ensures at c.in_ok-put_packets.ensures)
