use Rattle.std.proofs.Common.{arith, rules}
use Rattle.vp_search.proofs.CoarseLemmas.{none_coarse}
use Rattle.vp_search.proofs.kept_sums.KeptSums.new.Goals as goal

pub returns : goal.returns
returns c p = record {
  room = search rules;
  sums = rw c.none.ensures (record {
    few = omega arith;
    room = omega arith;
    size = search rules;
    are = λ y x h k. absurd (omega arith);
    coarse_size = search rules;
    coarse_are = λ some. rw (c.in_ok-sums.ensures.items_if_clones_equal (λ y e. e), c.in_ok-coarse.ensures.items_if_clones_equal (λ y e. e)) (none_coarse _ _ _);
  });
  row = search rules;
  column = search rules;
}
