use Rattle.std.proofs.Common.{sym}
use Rattle.vp_commands.specs.Commands.{read_side, written_side}
use Rattle.vp_commands.proofs.TaskLemmas.{sums_told, sums_untold}
use Rattle.vp_commands.proofs.sums.sum_pictures.Goals as goal

pub returns-then-is_told-clause-does : goal.returns-then-is_told-clause-does
returns-then-is_told-clause-does g c =
    sums_told c.args.decoding.now c.over_input-done.result c.report_decode-status.result c.tell_sums.result
    (read_side g.R.Read.remaining c.args.input.now) (read_side g.R.Read.remaining c.over_input-done.new.input) _ _
    (written_side g.W.Write.contents c.args.output.now) (written_side g.W.Write.contents c.tell_sums.new.output)
    (sym c.if-is_told.ensures.value) c.report_decode-status.ensures.status c.over_input-done.ensures
    c.tell_sums.ensures.told

pub returns-else-is_told-clause-does : goal.returns-else-is_told-clause-does
returns-else-is_told-clause-does g c =
    sums_untold c.args.decoding.now c.over_input-done.result c.report_decode-status.result
    (read_side g.R.Read.remaining c.args.input.now) (read_side g.R.Read.remaining c.over_input-done.new.input) _ _
    (written_side g.W.Write.contents c.args.output.now)
    c.if-is_told.ensures.negation c.report_decode-status.ensures.status c.over_input-done.ensures
