use Rattle.vp_still.proofs.LawLemmas.{stills_show}
use Rattle.vp_still.proofs.laws.stills_show_their_pictures.Goals as goal

pub returns : goal.returns
returns c = stills_show c.written_is_read.ensures.back c.shown_pictures_have_the_key_packets_size.ensures c.key_packet_resets.ensures
