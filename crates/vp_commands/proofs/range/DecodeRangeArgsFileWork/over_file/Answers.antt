use Rattle.std.proofs.Common.{rules}
use Rattle.vp_commands.specs.Commands.{form_by}
use Rattle.vp_commands.proofs.CommandLemmas.{unfinished_range}
use Rattle.vp_commands.proofs.range.DecodeRangeArgsFileWork.over_file.Goals as goal

pub returns-then-is_err-clause-decoded : goal.returns-then-is_err-clause-decoded
returns-then-is_err-clause-decoded g c =
    let wanted = c.args.self.now in
    unfinished_range wanted.decoding.limits (form_by wanted.decoding.y4m) wanted.first wanted.last
    c.over-done.result c.finish_range.result _ _ _ _ (search rules) c.finish_range.ensures.kept c.over-done.ensures
