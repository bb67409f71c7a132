use Rattle.vp_tree.proofs.Paths.{one_leaf}
use Rattle.vp_tree.proofs.laws.one_leaf.Goals as goal

pub returns : goal.returns
returns g c = one_leaf c.args.tree.now
