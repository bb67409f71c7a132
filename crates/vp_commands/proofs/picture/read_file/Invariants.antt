use Rattle.std.specs.Io.KnownBytes.{Consumes}
use Rattle.vp_base.specs.Counted.{counted_remaining}
use Rattle.vp_commands.proofs.picture.read_file.Given as goal

-- what was read so far
abbrev pub invariant-loop-turn : goal.invariant-loop-turn
invariant-loop-turn g l =
    Consumes (counted_remaining g.R.Read.remaining l.fn.input) (counted_remaining g.R.Read.remaining l.input) l.file.items
