use Rattle.clap.specs.Simple.{new_app}
use Rattle.vp_args.proofs.ArgsLemmas.{gains_word}
use Rattle.vp_args.proofs.words.part_command.Goals as goal

pub loop-word-preserved : goal.loop-word-preserved
loop-word-preserved c =
    gains_word c.args.many (new_app c.args.part.now.name.now) c.loop-word.command _ c.args.part.now.words.now c.loop-word.word-index _ c.argument.result c.loop-word-test.true c.loop-word.invariant.0 c.loop-word.invariant.1 c.in_ok-command.ensures c.argument.ensures.local c.argument.ensures.rule
