use Rattle.std.proofs.Common.{◌∙◌, length, ap, sym}
use Rattle.vp_decode.proofs.RowEntries.{part, row_made}
use Rattle.vp_decode.proofs.macroblocks.Macroblocks.row.Goals as goal

pub returns : goal.returns
returns c =
    rw (← c.self.view_is)
    (row_made c.self.inside.grid c.args.row c.columns-columns.result _ (ap length (sym c.as_slice.ensures.value) ∙ c.as_slice.ensures.whole) c.columns-columns.ensures.value
    (rw (← c.self.view_is) at c.requires) (ap (λ es. part c.args.row c.columns-columns.result es) c.as_slice.ensures.value))
