use Rattle.std.proofs.Common.{◌<◌, ◌≢◌, length, arith, get_or-set_same, get_or-set_other, below_more, length-set, ◌∙◌}
use Rattle.vp_tokens.proofs.Making.{tight, spelled, none}
use Rattle.vp_tokens.proofs.contexts.Tokens.of_levels.Goals as goal

pub loop-k-preserved : goal.loop-k-preserved
loop-k-preserved c =
    let e = c.of_levels.ensures in
    let within : c.loop-k.k < length c.loop-k.blocks = omega (arith, c.loop-k.invariant.whole) in
    record {
      whole = length-set c.loop-k.blocks c.loop-k.k c.of_levels.result ∙ c.loop-k.invariant.whole;
      made = below_more _ _
          (λ k h. let ne : k ≢ c.loop-k.k = omega arith in rw get_or-set_other (c.loop-k.invariant.made k h))
          (rw get_or-set_same (record { same = e.levels; tight = e.tight; good = e.block }));
    }

pub returns-clause-levels : goal.returns-clause-levels
returns-clause-levels c k h = (c.loop-k.invariant.made k (omega arith)).same

pub returns-clause-tight : goal.returns-clause-tight
returns-clause-tight c = tight c.args.levels.now c.loop-k.blocks c.loop-k.invariant.whole (λ k h. c.loop-k.invariant.made k (omega arith))

pub returns-clause-spelled : goal.returns-clause-spelled
returns-clause-spelled c = spelled c.args.levels.now c.loop-k.blocks c.loop-k.invariant.whole (λ k h. c.loop-k.invariant.made k (omega arith))

pub returns-clause-none : goal.returns-clause-none
returns-clause-none c = none c.args.levels.now c.loop-k.blocks c.loop-k.invariant.whole (λ k h. c.loop-k.invariant.made k (omega arith))
