use Rattle.vp_recon.proofs.Solves.{one}
use Rattle.vp_recon.proofs.laws.unfiltered_equation_has_one_solution.Goals as goal

pub returns : goal.returns
returns c = one
