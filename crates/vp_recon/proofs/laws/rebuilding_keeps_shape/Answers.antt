use Rattle.vp_recon.proofs.Solves.{whole_kept}
use Rattle.vp_recon.proofs.laws.rebuilding_keeps_shape.Goals as goal

pub returns-clause-whole : goal.returns-clause-whole
returns-clause-whole c = whole_kept
