use Rattle.vp_tokens.specs.Levels.{token}
use Rattle.vp_tokens.proofs.block_writing.write_end_of_block.Goals as goal

pub returns : goal.returns
unfolding token
returns c = rw (← c.row_of.ensures) c.in_ok-write_walk.ensures
