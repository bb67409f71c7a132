use Rattle.std.proofs.Common.{take}
use Rattle.clap.specs.Walk.{texts}
use Rattle.vp_args.specs.Args.{AreNamed}
use Rattle.vp_args.proofs.args.named_files.Given as goal

-- the operands so far are parted
abbrev pub invariant-loop-operand : goal.invariant-loop-operand
invariant-loop-operand l = AreNamed (texts (take l.operand-index l.operands)) l.streams.items
