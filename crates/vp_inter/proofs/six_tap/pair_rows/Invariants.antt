use Rattle.std.proofs.Common.{◌≡◌, ℕ, ◌+◌, ◌*◌, ◌/◌, ◌%◌, ◌<◌, get_or, length}
use Rattle.vp_inter.proofs.six_tap.pair_rows.Given as goal

-- whole pieces of sixteen
abbrev pub invariant-loop-i : goal.invariant-loop-i
invariant-loop-i g l = record {
  size : length l.pairs ≡ 32 * g.row.ROWS;
  done : (k c : ℕ) → k < l.i → c < 16 → get_or l.pairs (k * 16 + c) 0 ≡ get_or l.rows (8 * k + c / 2 + 48 * (c % 2)) 0;
}
