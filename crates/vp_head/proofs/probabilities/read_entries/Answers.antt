use Rattle.std.proofs.Common.{◌≡◌, ◌∙◌, arith, length-set}
use Rattle.vp_bool.proofs.ReaderLemmas.{each-more}
use Rattle.vp_head.specs.Probabilities.{entry_at}
use Rattle.vp_head.proofs.probabilities.read_entries.Goals as goal

pub loop-i-init : goal.loop-i-init
loop-i-init c = record { len = c.told-old; so_far = λ xs s h. h }

pub loop-i-preserved : goal.loop-i-preserved
loop-i-preserved c = record {
  len = length-set _ _ _ ∙ c.loop-i.invariant.len;
  so_far = λ xs s h. each-more 0 c.loop-i.i (entry_at c.args.table.now) xs _ _ s _ _ (c.loop-i.invariant.so_far xs s h) c.read_renewed.ensures.value c.read_renewed.ensures.rest;
}

pub returns : goal.returns
returns c = λ xs s h.
    let e : c.loop-i.i ≡ c.args.to = omega arith in
    rw (← e) (c.loop-i.invariant.so_far xs s h)
