use Rattle.std.proofs.Common.{◌≡◌, ℕ, ◌<◌, pos, get_or, length}
use Rattle.vp_transform.specs.Short.{cut}
use Rattle.vp_transform.proofs.short.all_cut.Given as goal

abbrev pub invariant-loop-i : goal.invariant-loop-i
invariant-loop-i l = record { size : length l.kept ≡ 16; done : (k : ℕ) → k < l.i → get_or l.kept k (pos 0) ≡ cut (get_or l.numbers k (pos 0)) }
