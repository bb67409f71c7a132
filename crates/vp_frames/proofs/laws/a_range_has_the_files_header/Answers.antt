use Rattle.vp_frames.proofs.LawLemmas.{lines_inside}
use Rattle.vp_frames.proofs.laws.a_range_has_the_files_header.Goals as goal

pub returns : goal.returns
returns c limits file range sizes some = lines_inside limits file range sizes some
