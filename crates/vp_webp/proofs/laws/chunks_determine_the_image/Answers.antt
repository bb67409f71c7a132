use Rattle.vp_webp.proofs.Determined.{is_read_by_its_chunks}
use Rattle.vp_webp.proofs.laws.chunks_determine_the_image.Goals as goal

pub returns : goal.returns
returns c = is_read_by_its_chunks
