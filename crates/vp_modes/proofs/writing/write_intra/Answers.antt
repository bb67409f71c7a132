use Rattle.std.proofs.Common.{refl}
use Rattle.vp_bool.proofs.WritingLemmas.{Writes-then, Continues-given}
use Rattle.vp_modes.specs.Modes.{intra_modes}
use Rattle.vp_modes.proofs.writing.write_intra.Goals as goal

pub returns : goal.returns
unfolding intra_modes
returns c =
    rw (← c.modes.view_is)
    (Writes-then _ c.in_ok-write_luma.ensures
    (Writes-then _ c.in_ok-write_subs_of.ensures
    (Writes-then _ c.in_ok-write_chroma.ensures (Continues-given refl _))))
