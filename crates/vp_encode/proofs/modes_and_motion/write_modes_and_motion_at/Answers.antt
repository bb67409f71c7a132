use Rattle.std.proofs.Common.{◌≡◌, ◌∙◌, true, false, sym, ap, subst}
use Rattle.std.specs.Prelude.{Some, unwrap_or}
use Rattle.vp_bool.specs.Writing.{Writes}
use Rattle.vp_head.specs.Reference.{is_intra}
use Rattle.vp_modes.specs.Spelled.{AreWritableModes}
use Rattle.vp_motion.specs.Motion.{motion_at}
use Rattle.vp_choose.specs.declared.frame.Choice.{Choice}
use Rattle.vp_encode.specs.CodedFrame.{nothing}
use Rattle.vp_encode.proofs.RasterOrder.{not_itself}
use Rattle.vp_encode.proofs.ContentLemmas.{gives, intra_written, inter_written, written_next}
use Rattle.vp_encode.proofs.modes_and_motion.write_modes_and_motion_at.Goals as goal

pub write_modes-requires-clause-spelled : goal.write_modes-requires-clause-spelled
write_modes-requires-clause-spelled c =
    subst (λ (x : Choice). AreWritableModes c.args.coded.now.header c.args.modes.now c.args.place x.modes) (ap (λ o. unwrap_or o nothing) c.get-macroblock.ensures)
    (c.requires.before.ahead c.args.place c.requires.place (not_itself c.args.place))

pub write_motion-requires-clause-given : goal.write_motion-requires-clause-given
write_motion-requires-clause-given c =
    gives c.args.coded.now _ _ _ (c.get-macroblock.ensures ∙ ap Some (sym c.macroblock.view_is)) c.requires.place c.requires.motion c.requires.spelled (sym c.is_intra.ensures ∙ c.if-is_intra.false)

pub returns-then-is_intra : goal.returns-then-is_intra
returns-then-is_intra c =
    let own : is_intra c.get-macroblock.result.now.modes.reference ≡ true = ap (λ (x : Choice). is_intra x.modes.reference) (sym c.macroblock.view_is) ∙ sym c.is_intra.ensures ∙ c.if-is_intra.true in
    record {
      writes = intra_written _ _ _ _ _ _ c.requires.place c.get-macroblock.ensures c.requires.before c.set.ensures.changed c.set.ensures.here c.set.ensures.elsewhere own c.in_ok-write_modes.ensures;
      written = written_next _ _ _ _ _ _ c.requires.place c.get-macroblock.ensures c.requires.before c.set.ensures.changed c.set.ensures.here c.set.ensures.elsewhere;
    }

pub returns : goal.returns
returns c =
    let away : is_intra c.get-macroblock.result.now.modes.reference ≡ false = ap (λ (x : Choice). is_intra x.modes.reference) (sym c.macroblock.view_is) ∙ sym c.is_intra.ensures ∙ c.if-is_intra.false in
    let motion = subst (λ (x : Choice). Writes (motion_at c.args.coded.now.header c.args.motion.now c.args.place x.modes.reference) c.write_modes.new.e c.write_motion.new.e x.motion)
    c.macroblock.view_is c.in_ok-write_motion.ensures in
    record {
      writes = inter_written _ _ _ _ _ _ c.requires.place c.get-macroblock.ensures c.requires.before c.set.ensures.changed c.set.ensures.here c.set.ensures.elsewhere
          c.args.motion.now c.requires.motion c.requires.spelled away c.in_ok-write_modes.ensures motion;
      written = written_next _ _ _ _ _ _ c.requires.place c.get-macroblock.ensures c.requires.before c.set.ensures.changed c.set.ensures.here c.set.ensures.elsewhere;
    }
