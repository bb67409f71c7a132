use Rattle.std.proofs.Common.{◌≡◌, ◌∙◌, false, ap}
use Rattle.vp_tables.specs.Modes.{is_split}
use Rattle.vp_bool.proofs.WritingLemmas.{Writes-then, Continues-given}
use Rattle.vp_motion.specs.Vector.{Motion}
use Rattle.vp_motion.specs.Motion.{motion_by}
use Rattle.vp_motion.proofs.Spellings.{one_vector, whole}
use Rattle.vp_motion.proofs.motion_writing.write_by.Goals as goal

pub returns : goal.returns
unfolding motion_by
returns c g p =
    let m = c.motion.inside in
    let split : is_split m.mode ≡ false = ap (λ (x : Motion). is_split x.mode) c.motion.view_is ∙ whole c.args.candidates.now _ _ c.requires in
    let same = one_vector m.mode m.vectors c.index-motion-15.result split c.motion.invariant in
    let given = rw (← c.candidates.view_is) at (c.in_ok-write_given.ensures g p) in
    rw (← c.candidates.view_is)
    (Writes-then _ c.in_ok-write_mode.ensures (Writes-then _ given (Continues-given ((λ i. record { mode = m.mode; vectors = same i }) ∙ c.motion.view_is) _)))
