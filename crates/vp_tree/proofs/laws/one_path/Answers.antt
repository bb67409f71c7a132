use Rattle.vp_tree.proofs.Paths.{one_path}
use Rattle.vp_tree.proofs.laws.one_path.Goals as goal

pub returns : goal.returns
returns g c = one_path c.args.tree.now c.requires
