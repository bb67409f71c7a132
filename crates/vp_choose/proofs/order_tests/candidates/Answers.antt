use Rattle.std.proofs.Common.{ℕ, zero, suc, ◌<◌, [], ◌∷◌, get_or, arith}
use Rattle.vp_choose.proofs.order_tests.candidates.Goals as goal

no_weights : (k : ℕ) → get_or (0 ∷ 0 ∷ 0 ∷ 0 ∷ []) k 0 < 6
no_weights zero = omega arith
no_weights (suc zero) = omega arith
no_weights (suc (suc zero)) = omega arith
no_weights (suc (suc (suc zero))) = omega arith
no_weights (suc (suc (suc (suc k)))) = omega arith

pub invariant_of-result : goal.invariant_of-result
invariant_of-result c = record {
  counts = no_weights;
  best = c.requires.nearest;
  nearest = c.requires.nearest;
  near = c.requires.near;
}
