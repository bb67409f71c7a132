use Rattle.std.proofs.Common.{◌∙◌, ap, arith}
use Rattle.vp_inter.specs.Patches.{patch_pass, weights_of}
use Rattle.vp_inter.proofs.PassLemmas.{from_zero}
use Rattle.vp_inter.proofs.WideLemmas.{by_halves}
use Rattle.vp_inter.proofs.WrittenLemmas.{none_written}
use Rattle.vp_inter.proofs.rows.wide_rows_by_halves.Goals as goal

pub loop-i-init : goal.loop-i-init
loop-i-init g c = record {
  done = none_written 16 c.args.pixels.now c.args.at c.args.stride (patch_pass (weights_of c.args.filter.now.left.weights) c.args.patch.now);
}

pub put_row-requires : goal.put_row-requires
put_row-requires g c = omega (arith, c.requires.room c.loop-i.i c.loop-i-test.true, c.loop-i.invariant.done.len)

pub loop-i-preserved : goal.loop-i-preserved
loop-i-preserved g c =
    let pixel = patch_pass (weights_of c.args.filter.now.left.weights) c.args.patch.now in
    record {
      done = c.put_row.ensures c.args.pixels.now pixel c.loop-i.invariant.done
          (by_halves c.joined_halves-row.result (pixel c.loop-i.i)
          (λ x h. c.joined_halves-row.ensures.front x h ∙ c.horizontal_row.ensures 0 c.requires.selects x h ∙ ap (pixel c.loop-i.i) (from_zero x))
          (λ x h. c.joined_halves-row.ensures.back x h ∙ c.horizontal_row-in-loop-i.ensures 8 c.requires.selects_right x h));
    }
