use Rattle.vp_recon.proofs.Solves.{one_size, still_whole}
use Rattle.vp_recon.proofs.laws.unfiltered_picture_solves_its_equation.Goals as goal

pub returns-clause-size : goal.returns-clause-size
returns-clause-size c = one_size

pub returns-clause-whole : goal.returns-clause-whole
returns-clause-whole c = still_whole
