use Rattle.std.proofs.Common.{List, take}
use Rattle.std.specs.Prelude.{Result}
use Rattle.clap.specs.Walk.{texts}
use Rattle.vp_base.specs.Counted.{counted_contents}
use Rattle.vp_stream.specs.declared.fault.DecodeFault.{DecodeFault}
use Rattle.vp_check.specs.declared.checked.Checked.{Checked}
use Rattle.vp_commands.specs.Commands.{read_side}
use Rattle.vp_commands.proofs.CheckLemmas.{AreDone}
use Rattle.vp_commands.proofs.check.check_each.Given as goal

-- the files so far
abbrev pub invariant-loop-name : goal.invariant-loop-name
invariant-loop-name g l =
    (dones : List (Result Checked DecodeFault))
    × AreDone l.work.limits l.work.style (texts (take l.name-index l.names)) dones l.total l.well
    (read_side g.R.Read.remaining l.fn.input) (read_side g.R.Read.remaining l.input)
    (counted_contents g.W.Write.contents l.fn.output) (counted_contents g.W.Write.contents l.output)
