use Rattle.std.proofs.Common.{refl, arith}
use Rattle.std.proofs.lemmas.Grind.{common_steps}
use Rattle.vp_base.specs.Block.{IsWhole}
use Rattle.vp_base.specs.Image.{plane_of}
use Rattle.vp_y4m.proofs.ReadLemmas.{no_reads, reads_then}
use Rattle.vp_y4m.proofs.PixelLemmas.{no_rows, rows_more, plane_short}
use Rattle.vp_y4m.proofs.pixels.read_plane.Goals as goal

pub loop-y-init : goal.loop-y-init
loop-y-init g c =
    let whole : IsWhole (plane_of c.args.picture.now c.args.k) = rw c.plane.ensures at c.width-known.ensures.whole in
    (refl, no_reads 0 _ _, omega arith, no_rows c.args.picture.now c.args.w c.args.k _ whole)

pub returns-in-Err-clause-short : goal.returns-in-Err-clause-short
returns-in-Err-clause-short g c = plane_short c.args.w c.args.h c.loop-y.y c.args.k c.in-Err.fault c.args.picture.now c.loop-y.picture _ _ _ c.loop-y.invariant.3 (omega arith) c.in-Err.ensures.short

pub loop-y-preserved : goal.loop-y-preserved
loop-y-preserved g c = (
  grind (arith, common_steps, c.in-Ok.ensures.quiet),
  reads_then 0 _ _ _ _ _ _ c.loop-y.invariant.1 c.in-Ok.ensures.reads,
  omega (arith, c.loop-y.invariant.2, c.in-Ok.ensures.within),
  rows_more c.args.w c.loop-y.y c.args.k c.args.picture.now c.loop-y.picture c.read_row.new.picture _ _ _ c.in-Ok.ensures.ok.0 c.loop-y.invariant.3 c.in-Ok.ensures.ok.1 c.requires.columns (omega arith) c.in-Ok.ensures.ok.2 c.in-Ok.ensures.ok.3,
)

pub returns-in-Err-clause-reads : goal.returns-in-Err-clause-reads
returns-in-Err-clause-reads g c = reads_then _ _ _ _ _ _ _ c.loop-y.invariant.1 c.in-Err.ensures.reads
