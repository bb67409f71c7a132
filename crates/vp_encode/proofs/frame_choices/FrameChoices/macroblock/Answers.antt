use Rattle.std.proofs.Common.{◌∙◌, ap}
use Rattle.vp_motion.specs.Vector.{Motion}
use Rattle.vp_choose.specs.declared.frame.Choice.{Choice}
use Rattle.vp_encode.proofs.ChoosingLemmas.{chosen_next}
use Rattle.vp_encode.proofs.frame_choices.FrameChoices.macroblock.Goals as goal

pub returns-clause-chosen : goal.returns-clause-chosen
returns-clause-chosen c =
    let made = c.choose-choice.ensures in
    chosen_next _ c.args.place.row c.args.place.column _ _ _ _ _ _ c.requires.place c.requires.before made.chosen made.written made.unmoved made.short made.rebuilt
    c.set.ensures.changed c.set.ensures.here c.set.ensures.elsewhere
    (λ i. record {
      reference = (c.choice.view_is i).modes.reference;
      mode = (ap (λ (m : Motion). m.mode) c.motion.view_is ∙ ap (λ (x : Choice). x.motion.mode) c.choice.view_is) i;
      vectors = (ap (λ (m : Motion). m.vectors) c.motion.view_is ∙ ap (λ (x : Choice). x.motion.vectors) c.choice.view_is) i;
    })
    c.set-2.ensures.changed c.set-2.ensures.here c.set-2.ensures.elsewhere
