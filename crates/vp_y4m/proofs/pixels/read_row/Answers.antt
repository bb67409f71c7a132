use Rattle.std.proofs.Common.{arith}
use Rattle.vp_y4m.proofs.PixelLemmas.{row_read}
use Rattle.vp_y4m.proofs.pixels.read_row.Goals as goal

pub returns-clause-ok : goal.returns-clause-ok
returns-clause-ok g c =
    row_read c.args.picture.now c.args.k c.args.w c.args.y _ _ c.fill.new.row c.row_mut.result.now _ c.requires.whole (omega arith) (omega arith) c.requires.columns c.requires.row c.row_mut.ensures.value c.fill.ensures.behind c.fill.ensures.ok
