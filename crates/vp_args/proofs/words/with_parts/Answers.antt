use Rattle.vp_args.specs.Args.{vp8_app}
use Rattle.vp_args.proofs.ArgsLemmas.{gains_part}
use Rattle.vp_args.proofs.words.with_parts.Goals as goal

pub loop-part-preserved : goal.loop-part-preserved
loop-part-preserved c =
    gains_part c.args.many vp8_app c.loop-part.command c.in_ok-made.made _ c.args.parts.now c.loop-part.part-index _ c.loop-part-test.true c.loop-part.invariant c.in_ok-made.ensures.app c.in_ok-made.ensures.local c.in_ok-command.ensures
