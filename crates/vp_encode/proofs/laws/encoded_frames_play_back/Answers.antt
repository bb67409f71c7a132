use Rattle.vp_encode.proofs.PlayingLemmas.{calls_are_played_back}
use Rattle.vp_encode.proofs.laws.encoded_frames_play_back.Goals as goal

pub returns : goal.returns
returns c = calls_are_played_back
