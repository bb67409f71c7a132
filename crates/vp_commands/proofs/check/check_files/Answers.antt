use Rattle.std.proofs.Common.{inr, rules, subst}
use Rattle.vp_base.specs.Counted.{counted_failures, HasFailed}
use Rattle.vp_commands.specs.Commands.{read_side, written_side}
use Rattle.vp_commands.proofs.CheckLemmas.{all_told}
use Rattle.vp_commands.proofs.check.check_files.Goals as goal

pub returns-in-Ok-true-clause-checked : goal.returns-in-Ok-true-clause-checked
returns-in-Ok-true-clause-checked g c =
    let work = c.args.work.now in
    all_told work.limits work.style work.names.now c.in-Ok-true.field-0 0
    (read_side g.R.Read.remaining c.args.input.now) (read_side g.R.Read.remaining c.check_each.new.input)
    (written_side g.W.Write.contents c.args.output.now) (written_side g.W.Write.contents c.check_each.new.output)
    (search rules) c.in-Ok-true.ensures.checked

pub returns-in-Ok-false-clause-checked : goal.returns-in-Ok-false-clause-checked
returns-in-Ok-false-clause-checked g c =
    let work = c.args.work.now in
    all_told work.limits work.style work.names.now c.in-Ok-false.field-0 1
    (read_side g.R.Read.remaining c.args.input.now) (read_side g.R.Read.remaining c.check_each.new.input)
    (written_side g.W.Write.contents c.args.output.now) (written_side g.W.Write.contents c.check_each.new.output)
    (search rules) c.in-Ok-false.ensures.checked

pub returns-in-Err-clause-checked : goal.returns-in-Err-clause-checked
returns-in-Err-clause-checked g c =
    let some = c.in-Err.ensures.checked in (
      some.0,
      some.1,
      inr (
        c.report_fault.ensures,
        subst (λ n. HasFailed n
            (counted_failures c.check_each.new.output)) c.requires c.in-Err.ensures.device,
      ),
    )
