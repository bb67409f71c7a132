use Rattle.vp_bool.specs.Reader.{rows}
use Rattle.vp_bool.specs.Writing.{Writes}
use Rattle.vp_tokens.specs.Blocks.{block_at, no_blocks}
use Rattle.vp_tokens.specs.Contexts.{had_of}
use Rattle.vp_tokens.specs.Flagged.{by_flags}
use Rattle.vp_tokens.specs.Placed.{AreFlagsAt}
use Rattle.vp_tokens.specs.Written.{prefix_blocks}
use Rattle.vp_tokens.proofs.writing.write_all.Given as goal

abbrev pub invariant-loop-k : goal.invariant-loop-k
invariant-loop-k l = record {
  around : AreFlagsAt l.has_y2 l.above l.left (had_of l.blocks) l.k l.flags;
  written : Writes (rows l.k (block_at l.probabilities l.has_y2 (by_flags l.above l.left)) no_blocks) l.fn.e l.e (prefix_blocks l.k l.blocks);
}
