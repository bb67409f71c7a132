use Rattle.std.proofs.Common.{arith}
use Rattle.vp_inter.specs.Patches.{patch_pixel}
use Rattle.vp_inter.proofs.WrittenLemmas.{none_written}
use Rattle.vp_inter.proofs.rows.copy_rows.Goals as goal

pub loop-r-init : goal.loop-r-init
loop-r-init g c = record { done = none_written g.row.N c.args.pixels.now c.args.at c.args.stride (patch_pixel c.args.patch.now) }

pub put_row-requires : goal.put_row-requires
put_row-requires g c = omega (arith, c.requires.room c.loop-r.r c.loop-r-test.true, c.loop-r.invariant.done.len)

pub loop-r-preserved : goal.loop-r-preserved
loop-r-preserved g c = record {
  done = c.put_row.ensures c.args.pixels.now (patch_pixel c.args.patch.now) c.loop-r.invariant.done c.plain_row-row.ensures;
}
