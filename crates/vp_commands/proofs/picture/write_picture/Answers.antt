use Rattle.vp_commands.specs.Commands.{read_side}
use Rattle.vp_commands.proofs.PictureLemmas.{over_written}
use Rattle.vp_commands.proofs.picture.write_picture.Goals as goal

pub returns-in-Ok-clause-made : goal.returns-in-Ok-clause-made
returns-in-Ok-clause-made g c =
    over_written c.args.wanted.now.input.now c.args.wanted.now c.written.result c.in-Ok.made
    (read_side g.R.Read.remaining c.args.input.now) (read_side g.R.Read.remaining c.made_picture.new.input)
    c.written.ensures.made c.written.ensures.untold c.in-Ok.ensures.made
