use Rattle.vp_frames.proofs.LawLemmas.{text_inside}
use Rattle.vp_frames.proofs.laws.a_range_is_a_part_of_the_file.Goals as goal

pub returns : goal.returns
returns c limits file range = text_inside limits file range
