use Rattle.std.proofs.Common.{refl}
use Rattle.vp_inter.proofs.WrittenLemmas.{row_written}
use Rattle.vp_inter.proofs.rows.put_row.Goals as goal

pub returns : goal.returns
returns g c first f done value =
    row_written g.row.N c.args.r first c.args.pixels.now _ c.args.row c.args.at c.args.stride f done c.requires refl c.fits-row.0 value
