use Rattle.std.proofs.Common.{arith}
use Rattle.vp_inter.specs.Patches.{patch_pass}
use Rattle.vp_inter.proofs.WrittenLemmas.{none_written}
use Rattle.vp_inter.proofs.rows.rows_by_taps.Goals as goal

pub loop-i-init : goal.loop-i-init
loop-i-init g c = record { done = none_written g.row.N c.args.pixels.now c.args.at c.args.stride (patch_pass c.args.weights.now c.args.patch.now) }

pub put_row-requires : goal.put_row-requires
put_row-requires g c = omega (arith, c.requires.room c.loop-i.i c.loop-i-test.true, c.loop-i.invariant.done.len)

pub loop-i-preserved : goal.loop-i-preserved
loop-i-preserved g c = record {
  done = c.put_row.ensures c.args.pixels.now (patch_pass c.args.weights.now c.args.patch.now) c.loop-i.invariant.done c.row_by_taps-row.ensures;
}
