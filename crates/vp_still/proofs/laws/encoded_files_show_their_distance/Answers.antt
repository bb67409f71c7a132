use Rattle.vp_still.proofs.LawLemmas.{encoded_shows}
use Rattle.vp_still.proofs.laws.encoded_files_show_their_distance.Goals as goal

pub returns : goal.returns
returns c = encoded_shows c.written_is_read.ensures.back c.shown_pictures_have_the_key_packets_size.ensures
