use Rattle.std.proofs.Common.{rules, inl, inr, IfOk, IfErr}
use Rattle.std.specs.Prelude.{codes}
use Rattle.clap.specs.Walk.{all_of, first_of, texts}
use Rattle.clap.specs.Words.{rows_of, found_of}
use Rattle.vp_args.specs.Args.{IsRefusal, IsTaskFor}
use Rattle.vp_args.proofs.ArgsLemmas.{no_service, to_serve}
use Rattle.vp_args.proofs.args.serve_turns_task.Goals as goal
use Rattle.vp_args.proofs.args.serve_turns_task.Goals.{in_default-via-in-Some+in-Some+in_default, in_default-via-in-Some+in_default, in_default-via-in_default}

pub returns-in-Some-Some-Some-clause-plan : goal.returns-in-Some-Some-Some-clause-plan
returns-in-Some-Some-Some-clause-plan c =
    let rows = rows_of (found_of c.args.found.now) in
    let said = c.in-Some-Some-Some in
    to_serve rows (first_of (codes "listen") rows) (first_of (codes "connections") rows) (all_of (codes "NAME=FILE") rows) said.listen.now said.connections.now (texts said.operands.now)
    (search rules) (search rules) (search rules) (λ asked. IfOk c.serve_task_args.result (IsTaskFor asked)) c.serve_task_args.ensures.plan

pub returns-in-Some-Some-Some-clause-refusal : goal.returns-in-Some-Some-Some-clause-refusal
returns-in-Some-Some-Some-clause-refusal c =
    let rows = rows_of (found_of c.args.found.now) in
    let said = c.in-Some-Some-Some in
    to_serve rows (first_of (codes "listen") rows) (first_of (codes "connections") rows) (all_of (codes "NAME=FILE") rows) said.listen.now said.connections.now (texts said.operands.now)
    (search rules) (search rules) (search rules) (λ asked. IfErr c.serve_task_args.result (IsRefusal asked)) c.serve_task_args.ensures.refusal

pub returns-in_default-clause-plan : goal.returns-in_default-clause-plan
returns-in_default-clause-plan c =
    let rows = rows_of (found_of c.args.found.now) in
    no_service rows (first_of (codes "listen") rows) (first_of (codes "connections") rows) (all_of (codes "NAME=FILE") rows) (elim c.in_default.branch [
      | in_default-via-in-Some+in-Some+in_default w ↦ inr (inr (search rules))
      | in_default-via-in-Some+in_default w ↦ inr (inl (search rules))
      | in_default-via-in_default w ↦ inl (search rules)
    ])
