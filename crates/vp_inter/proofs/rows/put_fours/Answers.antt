use Rattle.std.proofs.Common.{◌+◌, ◌*◌, refl, arith}
use Rattle.vp_inter.proofs.WrittenLemmas.{rows_written}
use Rattle.vp_inter.proofs.rows.put_fours.Goals as goal

pub returns : goal.returns
returns c before f done upper lower =
    rows_written (2 * c.args.i) (2 * (c.args.i + 1)) before c.args.pixels.now _ c.args.rows c.args.at f (omega arith) done c.requires.room refl c.fits-rows.0 upper lower
