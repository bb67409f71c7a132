use Rattle.vp_tree.proofs.Spellings.{takes_paths}
use Rattle.vp_tree.proofs.laws.takes_paths.Goals as goal

pub returns : goal.returns
returns g c = takes_paths c.args.tree.now c.requires
