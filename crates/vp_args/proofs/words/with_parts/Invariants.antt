use Rattle.std.proofs.Common.{◌≡◌, take}
use Rattle.clap.specs.Simple.{app_of}
use Rattle.vp_args.specs.Args.{vp8_app}
use Rattle.vp_args.specs.Tables.{with_parts}
use Rattle.vp_args.proofs.words.with_parts.Given as goal

-- the command has the subcommands so far
abbrev pub invariant-loop-part : goal.invariant-loop-part
invariant-loop-part l = app_of l.command ≡ with_parts l.many vp8_app (take l.part-index l.parts)
