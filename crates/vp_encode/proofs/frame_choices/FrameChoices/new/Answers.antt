use Rattle.std.proofs.Common.{◌∙◌, ap, sym}
use Rattle.vp_base.specs.Grid.{Grid}
use Rattle.vp_choose.specs.declared.frame.Choice.{Choice}
use Rattle.vp_encode.proofs.ChoosingLemmas.{begun}
use Rattle.vp_encode.proofs.frame_choices.FrameChoices.new.Goals as goal

pub returns : goal.returns
returns c =
    begun _ c.dim-dim.result.w c.dim-dim.result.h (record { picture = c.in_ok-picture.picture; motion = c.in_ok-motion.motion; chosen = c.in_ok-chosen.chosen })
    (sym c.dim-dim.ensures.width) (sym c.dim-dim.ensures.height) c.in_ok-picture.ensures c.in_ok-motion.ensures
    (ap (λ (g : Grid Choice). g.columns) c.in_ok-chosen.ensures ∙ c.from-columns.ensures ∙ c.mb_cols.ensures.value)
    (ap (λ (g : Grid Choice). g.rows) c.in_ok-chosen.ensures ∙ c.from-rows.ensures ∙ c.mb_rows.ensures.value)
