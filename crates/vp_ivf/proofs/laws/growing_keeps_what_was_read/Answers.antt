use Rattle.vp_ivf.proofs.Growing.{reads_in_pieces, keeps_packets, keeps_head, keeps_fault}
use Rattle.vp_ivf.proofs.laws.growing_keeps_what_was_read.Goals as goal

pub returns : goal.returns
returns c = record { pieces = reads_in_pieces; packets = keeps_packets; head = keeps_head; fault = keeps_fault }
