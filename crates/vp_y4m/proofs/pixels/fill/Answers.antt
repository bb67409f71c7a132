use Rattle.std.proofs.Common.{◌∙◌, arith}
use Rattle.std.proofs.lemmas.Grind.{common_steps}
use Rattle.std.proofs.lemmas.Slice.{drop-put_mid}
use Rattle.vp_y4m.proofs.PixelLemmas.{filled_more}
use Rattle.vp_y4m.proofs.pixels.fill.Goals as goal

pub loop-filled-preserved : goal.loop-filled-preserved
loop-filled-preserved g c = (
  grind (arith, common_steps, c.in-Ok.ensures.failures),
  omega (arith, c.in-Ok.ensures.bound),
  omega (arith, c.loop-filled.invariant.2, c.in-Ok.ensures.reads),
  filled_more c.loop-filled.row c.read.new.buf c.loop-filled.filled _ c.in-Ok.count _ _ _ (omega arith) (omega (arith, c.in-Ok.ensures.bound)) c.loop-filled.invariant.3 c.in-Ok.ensures.bytes.0,
  drop-put_mid c.loop-filled.filled _ c.loop-filled.row c.read.new.buf c.args.w (omega arith) (omega arith) (omega arith) ∙ c.loop-filled.invariant.4,
)

pub returns-in-Ok-eq0-clause-behind : goal.returns-in-Ok-eq0-clause-behind
returns-in-Ok-eq0-clause-behind g c = drop-put_mid c.loop-filled.filled _ c.loop-filled.row c.read.new.buf c.args.w (omega arith) (omega arith) (omega arith) ∙ c.loop-filled.invariant.4

pub returns-in-Err-clause-behind : goal.returns-in-Err-clause-behind
returns-in-Err-clause-behind g c = drop-put_mid c.loop-filled.filled _ c.loop-filled.row c.read.new.buf c.args.w (omega arith) (omega arith) (omega arith) ∙ c.loop-filled.invariant.4
