use Rattle.std.proofs.Common.{◌≤◌, ℕ, pos, negsuc, zero, suc, [], replicate, get_or, arith}
use Rattle.std.specs.Prelude.{unsigned_abs}
use Rattle.vp_syntax_tests.proofs.tokens.tokens_end_with_the_last_level.Goals as goal

level_within : (n i : ℕ) → unsigned_abs (get_or (replicate n (negsuc 2113)) i (pos 0)) ≤ 2114
level_within zero i = omega arith
level_within (suc n) zero = omega arith
level_within (suc n) (suc i) = level_within n i

levels_within : (n k i : ℕ) → unsigned_abs (get_or (get_or (replicate n (replicate 16 (negsuc 2113))) k []) i (pos 0)) ≤ 2114
levels_within zero k i = omega arith
levels_within (suc n) zero i = level_within 16 i
levels_within (suc n) (suc k) i = levels_within n k i

pub of_levels-tokens-requires : goal.of_levels-tokens-requires
of_levels-tokens-requires g c k i = levels_within 25 k i
