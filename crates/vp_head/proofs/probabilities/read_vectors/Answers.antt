use Rattle.std.proofs.Common.{◌≡◌, ◌∙◌, [], arith, length-set}
use Rattle.vp_bool.proofs.ReaderLemmas.{each-more, each-none, gives}
use Rattle.vp_head.specs.Probabilities.{component_at, vectors}
use Rattle.vp_tables.specs.declared.mode_probabilities.TheConstants.{VECTOR_UPDATES}
use Rattle.vp_head.proofs.probabilities.read_vectors.Goals as goal

pub loop-i-init : goal.loop-i-init
loop-i-init c = record { len = c.told-old; so_far = each-none _ _ _ _ }

pub loop-i-preserved : goal.loop-i-preserved
loop-i-preserved c = record {
  len = length-set _ _ _ ∙ c.loop-i.invariant.len;
  so_far = each-more [] c.loop-i.i (component_at VECTOR_UPDATES) _ _ _ _ _ _ c.loop-i.invariant.so_far c.read_component.ensures.value c.read_component.ensures.rest;
}

pub returns : goal.returns
unfolding vectors
returns c =
    let e : c.loop-i.i ≡ 2 = omega arith in
    let h = gives _ _ _ (rw e at c.loop-i.invariant.so_far) in
    record { value = h.value; rest = h.rest }
