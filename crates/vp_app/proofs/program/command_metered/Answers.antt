use Rattle.std.proofs.Common.{refl, ap, inl, inr}
use Rattle.clap.specs.Walk.{texts}
use Rattle.vp_args.specs.Args.{parsed_args}
use Rattle.vp_commands.specs.Commands.{read_side, written_side}
use Rattle.vp_app.proofs.ProgramLemmas.{does_refused, mistaken_words}
use Rattle.vp_app.proofs.program.command_metered.Goals as goal

pub returns-in-Ok-clause-does : goal.returns-in-Ok-clause-does
returns-in-Ok-clause-does g c = λ none. c.run_task.ensures.does (parsed_args (texts c.args.words.now)) c.in-Ok.ensures.plan.1

pub returns-in-Ok-clause-mistaken : goal.returns-in-Ok-clause-mistaken
returns-in-Ok-clause-mistaken g c = λ mistaken. absurd (mistaken.some c.in-Ok.ensures.plan.0)

pub returns-in-Err-clause-does : goal.returns-in-Err-clause-does
returns-in-Err-clause-does g c = λ none.
    let side = written_side g.W.Write.contents in
    does_refused (texts c.args.words.now) c.in-Err.refusal c.reject.result (read_side g.R.Read.remaining c.args.input.now)
    (side c.args.output.now) (side c.reject.new.output) c.in-Err.ensures.refusal
    (λ memory. let is = c.reject.ensures.memory memory in (is.0, ap side is.1))
    (λ value. let is = c.reject.ensures.value value in (is.0, ap side is.1)) none

pub returns-in-Err-clause-mistaken : goal.returns-in-Err-clause-mistaken
returns-in-Err-clause-mistaken g c = λ mistaken.
    elim (mistaken_words (texts c.args.words.now) c.in-Err.refusal c.in-Err.ensures.refusal mistaken) [
      | inl memory ↦ let is = c.reject.ensures.memory memory in inr (is.0, refl, is.1)
      | inr mistake ↦ elim (c.reject.ensures.mistake mistake) [
        | inl is ↦ inl is
        | inr is ↦ inr (is.0, refl, is.1)
      ]
    ]
