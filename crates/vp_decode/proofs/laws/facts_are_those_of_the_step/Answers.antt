use Rattle.vp_decode.proofs.CorruptLemmas.{is_frame_corrupt-frame_facts}
use Rattle.vp_decode.proofs.FactLemmas.{facts_of_state, facts_of_outcome, new_or_older}
use Rattle.vp_decode.proofs.laws.facts_are_those_of_the_step.Goals as goal

pub returns : goal.returns
returns c =
    let law = c.unfiltered_picture_solves_its_equation.ensures in
    let state = facts_of_state (record { size = law.size; aligned = law.aligned; whole = law.whole }) in
    record { state = state; outcome = facts_of_outcome; corrupt = is_frame_corrupt-frame_facts; references = new_or_older }
