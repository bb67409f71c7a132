use Rattle.std.proofs.Common.{◌∙◌}
use Rattle.std.proofs.lemmas.Result.{IfOk-weaker}
use Rattle.vp_stream.proofs.CursorLemmas.{shown_answer}
use Rattle.vp_stream.proofs.seeking.answer_to.Goals as goal

pub returns : goal.returns
returns c =
    IfOk-weaker c.answer_of.result _ _
    (λ a e. e ∙ shown_answer c.args.decoder.now c.decode.new.self c.in_ok-outcome.outcome c.args.packet.now c.in_ok-outcome.ensures.after c.in_ok-outcome.ensures.outcome)
    c.answer_of.ensures
