use Rattle.vp_encode.proofs.PlayingLemmas.{fits, plays}
use Rattle.vp_encode.proofs.laws.encoded_files_play_back.Goals as goal

pub returns : goal.returns
returns c = record { fit = fits; play = plays }
