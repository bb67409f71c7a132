use Rattle.std.proofs.Common.{◌≡◌, ◌∙◌, Bool, true, false, not, is_some, Option, Some, None, replicate, refl, sym, ap, if◌then◌else◌}
use Rattle.std.specs.Bool.{then_some}
use Rattle.vp_tables.specs.declared.modes.SubMode.TheVariants as sub_is
use Rattle.vp_tables.specs.Modes.{is_by_subblocks}
use Rattle.vp_modes.specs.Entry.{Modes}
use Rattle.vp_choose.specs.declared.subblocks.Subblocks.{Subblocks}
use Rattle.vp_choose.proofs.OneLuma.{either}
use Rattle.vp_choose.proofs.LumaModes.{at_once, by_subblocks}
use Rattle.vp_choose.proofs.macroblock.intra_coding.Goals as goal
use Rattle.vp_choose.proofs.macroblock.intra_coding.Goals.{in-Some, in-None}

is_some_then : (b : Bool) (s : Subblocks) → is_some (then_some b s) ≡ b
is_some_then true s = refl
is_some_then false s = refl

-- the modes of subblocks that are kept, or DC
some_modes : (b : Bool) (s t : Subblocks) (o : Option Subblocks) → o ≡ then_some b s → o ≡ Some t → t.modes ≡ (if b then s.modes else replicate 16 sub_is.Dc)
some_modes true s t o e h = cc
some_modes false s t o e h = cc

no_modes : (b : Bool) (s : Subblocks) (o : Option Subblocks) → o ≡ then_some b s → o ≡ None → replicate 16 sub_is.Dc ≡ (if b then s.modes else replicate 16 sub_is.Dc)
no_modes true s o e h = cc
no_modes false s o e h = refl

pub returns-clause-coded : goal.returns-clause-coded
returns-clause-coded c source factors choice cut predicted is_of =
    let p = c.args.picture.now in
    let l = c.args.luma.now in
    let place = c.args.place in
    let made = c.choose_chroma-chroma.ensures in
    let by : is_by_subblocks l.mode ≡ is_by_subblocks choice.mode = ap is_by_subblocks is_of.mode in
    let some : is_some l.subblocks ≡ is_by_subblocks choice.mode = rw is_of.subblocks (is_some_then (is_by_subblocks choice.mode) choice.subblocks) in
    let subs : c.match-luma.subs ≡ (if is_by_subblocks choice.mode then choice.subblocks.modes else replicate 16 sub_is.Dc) = elim c.match-luma.branch [
      | in-Some w ↦ w.subs-is ∙ some_modes (is_by_subblocks choice.mode) choice.subblocks w.in-Some.subblocks l.subblocks is_of.subblocks w.in-Some.is
      | in-None w ↦ w.subs-is ∙ no_modes (is_by_subblocks choice.mode) choice.subblocks l.subblocks is_of.subblocks w.in-None.is
    ] in
    record {
      segment = refl;
      predicted = λ ch is.
          let m : Modes = ch.modes in
          let luma : m.luma ≡ l.mode = ap (λ (a : Modes). a.luma) is.modes in
          let chroma : m.chroma ≡ c.choose_chroma-chroma.result.mode = ap (λ (a : Modes). a.chroma) is.modes in
          record {
            sub_modes = rw (luma, is_of.mode) (sym some);
            y2 = rw (luma, is_of.mode) (ap not (sym some));
            at_once = λ whole.
                let off : is_by_subblocks l.mode ≡ false = by ∙ sym some ∙ whole in
                predicted.at_once off ∙ rw (← luma) (at_once m place p.luma (rw luma off));
            by_subblocks = λ t. either (is_by_subblocks choice.mode)
                (λ on.
                let rebuilt = rw (is_of.subblocks, on) at predicted.by_subblocks in
                rw (is_of.subblocks, on) (by_subblocks m place p.luma factors choice.subblocks l.prediction (rw (luma, by) on) (ap (λ (a : Modes). a.subs) is.modes ∙ subs ∙ rw on) rebuilt t))
                (λ off. rw (is_of.subblocks, off) tt);
            u = rw chroma made.u;
            v = rw chroma made.v;
          };
      completed = λ ch is levels. record {
        reference = ap (λ (a : Modes). a.reference) is.modes;
        luma = ap (λ (a : Modes). a.luma) is.modes ∙ is_of.mode;
        subs = ap (λ (a : Modes). a.subs) is.modes ∙ subs;
        chroma = rw (ap (λ (a : Modes). a.chroma) is.modes) (made.best source cut);
        by_subblocks = λ on. rw (is_of.subblocks, on) at levels.by_subblocks;
        at_once = λ off. levels.at_once (some ∙ off);
        u = levels.u;
        v = levels.v;
      };
    }
