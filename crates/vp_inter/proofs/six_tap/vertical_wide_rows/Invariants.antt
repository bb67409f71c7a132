use Rattle.std.proofs.Common.{◌≡◌, ℕ, ◌+◌, ◌*◌, ◌/◌, ◌%◌, ◌<◌, get_or, length}
use Rattle.vp_inter.specs.Filter.{filter_six}
use Rattle.vp_inter.specs.Patches.{weights_of}
use Rattle.vp_inter.proofs.six_tap.vertical_wide_rows.Given as goal

abbrev pub invariant-loop-i : goal.invariant-loop-i
invariant-loop-i g l = record {
  size : length l.pixels ≡ 16 * g.row.ROWS;
  done : (k c : ℕ) → k < l.i → c < 16 → get_or l.pixels (k * 16 + c) 0 ≡ filter_six (weights_of l.weights) (λ i. get_or l.pairs (32 * k + 32 * (i % 3) + (2 * c + i / 3)) 0);
}
