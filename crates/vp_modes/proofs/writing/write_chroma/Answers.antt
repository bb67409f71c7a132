use Rattle.vp_tables.specs.declared.modes.ChromaMode.TheVariants as chroma_is
use Rattle.vp_modes.specs.Modes.{chroma_mode}
use Rattle.vp_modes.proofs.writing.write_chroma.Goals as goal

pub returns-in_ok-write_tree : goal.returns-in_ok-write_tree
unfolding chroma_mode
returns-in_ok-write_tree c = rw c.if-header.true (c.in_ok-write_tree.ensures chroma_is.Dc)

pub returns-in_ok-write_tree-2 : goal.returns-in_ok-write_tree-2
unfolding chroma_mode
returns-in_ok-write_tree-2 c = rw c.if-header.false (c.in_ok-write_tree-2.ensures chroma_is.Dc)
