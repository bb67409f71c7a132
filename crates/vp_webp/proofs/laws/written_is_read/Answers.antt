use Rattle.vp_webp.proofs.Written.{read_back, torn_if_cut}
use Rattle.vp_webp.proofs.laws.written_is_read.Goals as goal

pub returns : goal.returns
returns c = record { back = read_back; cut = torn_if_cut }
