use Rattle.std.proofs.Common.{◌≡◌, false, map, take}
use Rattle.clap.specs.Simple.{app_of, new_app}
use Rattle.clap.specs.declared.builder.command.Command.TheViews.{out-Command as fields_of}
use Rattle.vp_args.specs.Args.{with_rules}
use Rattle.vp_args.specs.Tables.{word_rule}
use Rattle.vp_args.proofs.words.part_command.Given as goal

-- the command has the words so far
abbrev pub invariant-loop-word : goal.invariant-loop-word
invariant-loop-word l =
    (app_of l.command ≡ with_rules (new_app l.part.name.now) (map (word_rule l.many) (take l.word-index l.part.words.now)))
    × ((fields_of l.command).has_globals ≡ false)
