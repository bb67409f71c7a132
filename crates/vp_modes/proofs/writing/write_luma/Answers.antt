use Rattle.vp_tables.specs.declared.modes.LumaMode.TheVariants as luma_is
use Rattle.vp_modes.specs.Modes.{luma_mode}
use Rattle.vp_modes.proofs.writing.write_luma.Goals as goal

pub returns-in_ok-write_tree : goal.returns-in_ok-write_tree
unfolding luma_mode
returns-in_ok-write_tree c = rw c.if-header.true (c.in_ok-write_tree.ensures luma_is.Dc)

pub returns-in_ok-write_tree-2 : goal.returns-in_ok-write_tree-2
unfolding luma_mode
returns-in_ok-write_tree-2 c = rw c.if-header.false (c.in_ok-write_tree-2.ensures luma_is.Dc)
