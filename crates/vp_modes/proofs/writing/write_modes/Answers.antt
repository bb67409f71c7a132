use Rattle.std.proofs.Common.{◌≡◌, true, false, sym}
use Rattle.vp_bool.proofs.WritingLemmas.{Writes-then, Continues-given}
use Rattle.vp_head.specs.Reference.{is_intra}
use Rattle.vp_modes.specs.Modes.{segment_of, modes_at}
use Rattle.vp_modes.proofs.writing.write_modes.Goals as goal

pub returns-in_ok-write_intra : goal.returns-in_ok-write_intra
unfolding modes_at segment_of
returns-in_ok-write_intra c =
    let s = rw (← c.modes.view_is) at c.requires.spelled in
    let w = rw (← c.modes.view_is) at c.in_ok-write_intra.ensures in
    let e : is_intra c.modes.inside.reference ≡ true = sym c.if-is_intra.ensures in
    rw (← c.modes.view_is)
    (Writes-then _ (c.in_ok-write_segment_if.ensures _ s.segment)
    (Writes-then _ c.in_ok-write_skip.ensures
    (Writes-then _ c.in_ok-write_reference.ensures (rw e w))))

pub returns-else-is_intra : goal.returns-else-is_intra
unfolding modes_at segment_of
returns-else-is_intra c =
    let s = rw (← c.modes.view_is) at c.requires.spelled in
    let e : is_intra c.modes.inside.reference ≡ false = sym c.if-is_intra.ensures in
    rw (← c.modes.view_is)
    (Writes-then _ (c.in_ok-write_segment_if.ensures _ s.segment)
    (Writes-then _ c.in_ok-write_skip.ensures
    (Writes-then _ c.in_ok-write_reference.ensures (rw e (Continues-given (sym (s.inter e)) _)))))
