use Rattle.vp_y4m.proofs.LawLemmas.{head_read_back, picture_read_back}
use Rattle.vp_y4m.proofs.laws.written_is_read.Goals as goal

pub returns : goal.returns
returns c = record { head = head_read_back; picture = picture_read_back }
