use Rattle.vp_base.proofs.Writes.{writes_on}
use Rattle.vp_lines.proofs.listing.write_lines.Goals as goal

pub loop-rest-preserved-then-taken-gt0 : goal.loop-rest-preserved-then-taken-gt0
loop-rest-preserved-then-taken-gt0 g c = λ well.
    writes_on _ _ _ _ c.loop-rest.rest.now c.in-Ok.taken (c.loop-rest.invariant well) c.in-Ok.ensures.bytes
