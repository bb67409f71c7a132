use Rattle.std.proofs.Common.{rules}
use Rattle.vp_commands.specs.Commands.{form_by}
use Rattle.vp_commands.proofs.CommandLemmas.{unfinished}
use Rattle.vp_commands.proofs.decode.DecodeArgsFileWork.over_file.Goals as goal

pub returns-then-is_err-clause-decoded : goal.returns-then-is_err-clause-decoded
returns-then-is_err-clause-decoded g c =
    unfinished c.args.self.now.limits (form_by c.args.self.now.y4m) c.over-done.result c.finish_pictures.result _ _ _ _ (search rules)
    c.finish_pictures.ensures.kept c.over-done.ensures
