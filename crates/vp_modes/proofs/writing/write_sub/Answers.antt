use Rattle.vp_tables.specs.declared.modes.SubMode.TheVariants as sub_is
use Rattle.vp_modes.proofs.writing.write_sub.Goals as goal

pub returns : goal.returns
returns c = c.in_ok-write_tree.ensures sub_is.Dc
