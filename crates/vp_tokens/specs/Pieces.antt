-- Private to the crate: words of the code for what Levels.antt and Blocks.antt say in passing.
use Rattle.std.specs.Prelude.{ℕ, ◌+◌, ◌==◌, min, Bool, not, List, if◌then◌else◌}
use Rattle.std.specs.Int.{from_bool}
use Rattle.vp_bool.specs.Reader.{Reader, when, rows}
use Rattle.vp_tokens.specs.Block.{Block}
use Rattle.vp_tokens.specs.Levels.{Probabilities}
use Rattle.vp_tokens.specs.Blocks.{Blocks, block_at, no_blocks}
use Rattle.vp_tokens.specs.Contexts.{flag_at}

-- after a level of magnitude s: the context, and the pair where the walk starts; after a 0 the end of block isn't
-- coded
abbrev pub context_after : ℕ → ℕ
context_after s = min s 2

abbrev pub pair_after : ℕ → ℕ
pair_after s = if s == 0 then 2 else 0

-- the number of true values
abbrev pub true_count : Bool → Bool → ℕ
true_count a b = from_bool a + from_bool b

-- whether the Y2 block of a macroblock has a token, or the default if it has no Y2 block
abbrev pub y2_or : Blocks → Bool → Bool
y2_or m other = if m.has_y2 then flag_at m.had 0 else other

-- all blocks in order; those of a skipped macroblock have no tokens
abbrev pub all_blocks : Probabilities → Bool → Bool → (List Bool → ℕ → ℕ) → Reader (List Block)
all_blocks probabilities has_y2 skipped context = when (not skipped)
    (rows 25 (block_at probabilities has_y2 context) no_blocks) no_blocks
