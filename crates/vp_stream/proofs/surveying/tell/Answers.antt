use Rattle.std.proofs.Common.{◌∙◌, ◌++◌, ◌∷◌, [], ℕ, List, length, ap}
use Rattle.vp_decode.specs.declared.decoder.Outcome.{Outcome}
use Rattle.vp_stream.proofs.surveying.tell.Goals as goal

pub returns-clause-outcomes : goal.returns-clause-outcomes
returns-clause-outcomes c limits state beside = c.outcome-outcome.ensures.after limits state beside

pub returns-clause-packets : goal.returns-clause-packets
returns-clause-packets c limits state beside =
    let told : Outcome → List (ℕ × Outcome) = λ o. c.args.packets.now ++ (length c.args.packet.now, o) ∷ [] in
    c.in_ok-push.ensures.ok ∙ ap told (c.outcome-outcome.ensures.outcome limits state beside)
