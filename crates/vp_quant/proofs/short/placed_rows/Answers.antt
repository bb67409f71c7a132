use Rattle.vp_quant.proofs.Sixteen.{in_both, by_rows}
use Rattle.vp_quant.proofs.short.placed_rows.Goals as goal

pub returns-clause-left : goal.returns-clause-left
returns-clause-left c =
    let at = in_both 16 c.args.upper c.args.lower c.well_formed.0 c.well_formed.1.0 in
    by_rows _ (at 0) (at 2) (at 10) (at 12) (at 4) (at 8) (at 14) (at 24) (at 6) (at 16) (at 22) (at 26) (at 18) (at 20) (at 28) (at 30)

pub returns-clause-right : goal.returns-clause-right
returns-clause-right c =
    let at = in_both 16 c.args.upper c.args.lower c.well_formed.0 c.well_formed.1.0 in
    by_rows _ (at 1) (at 3) (at 11) (at 13) (at 5) (at 9) (at 15) (at 25) (at 7) (at 17) (at 23) (at 27) (at 19) (at 21) (at 29) (at 31)
