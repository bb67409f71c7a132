use Rattle.vp_motion.proofs.writing.write_short.Goals as goal

pub returns : goal.returns
returns c = c.in_ok-write_tree.ensures 0
