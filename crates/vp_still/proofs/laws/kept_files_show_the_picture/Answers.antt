use Rattle.vp_still.proofs.LawLemmas.{kept_shows}
use Rattle.vp_still.proofs.laws.kept_files_show_the_picture.Goals as goal

pub returns : goal.returns
returns c = kept_shows c.written_is_read.ensures.back c.key_packet_resets.ensures
