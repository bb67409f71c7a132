use Rattle.std.proofs.Common.{◌≡◌, false, rules}
use Rattle.vp_commands.specs.Commands.{is_stream, read_side, IsMadeInput}
use Rattle.vp_commands.proofs.WorkLemmas.{over_file}
use Rattle.vp_commands.proofs.PictureLemmas.{over_device}
use Rattle.vp_commands.proofs.picture.made_picture.Goals as goal

pub returns-then-eq-2-clause-made : goal.returns-then-eq-2-clause-made
returns-then-eq-2-clause-made g c =
    let named : is_stream c.args.wanted.now.input.now ≡ false = search rules in
    over_device c.args.wanted.now.input.now c.args.wanted.now (read_side g.R.Read.remaining c.args.input.now) named

pub returns-in-Ok-clause-made : goal.returns-in-Ok-clause-made
returns-in-Ok-clause-made g c =
    let named : is_stream c.args.wanted.now.input.now ≡ false = search rules in
    over_file c.args.wanted.now.input.now (IsMadeInput c.args.wanted.now c.picture_of-made.result) (read_side g.R.Read.remaining c.args.input.now) _ _ named c.picture_of-made.ensures
