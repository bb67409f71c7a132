use Rattle.vp_webp.proofs.Faithful.{is_faithful_to_file}
use Rattle.vp_webp.proofs.laws.packet_is_in_the_file.Goals as goal

pub returns : goal.returns
returns c = is_faithful_to_file
