use Rattle.vp_live.proofs.LawLemmas.{live_plays}
use Rattle.vp_live.proofs.laws.live_files_play_back.Goals as goal

pub returns : goal.returns
returns c = live_plays
