use Rattle.std.proofs.Common.{◌≡◌, ℕ, ◌+◌, ◌*◌, ◌<◌, get_or, length}
use Rattle.vp_search.specs.declared.window.TheConstants.{WINDOW_WIDTH}
use Rattle.vp_search.specs.Bounds.{column_sum}
use Rattle.vp_search.specs.Coarse.{AreCoarse}
use Rattle.vp_search.proofs.SquareLemmas.{Rows}
use Rattle.vp_search.proofs.sums.fill_sums.Given as goal

abbrev pub invariant-loop-y : goal.invariant-loop-y
invariant-loop-y l = record {
  columns : (x : ℕ) → x < 8 * (l.groups + 1) → get_or l.columns x 0 ≡ column_sum l.window (l.y * WINDOW_WIDTH + l.first + x) WINDOW_WIDTH;
  coarse : 0 < length l.fn.coarse → (n : ℕ) → AreCoarse n l.fn.sums l.fn.coarse → AreCoarse n l.sums l.coarse;
  squares : Rows l.window l.sums l.range l.kept.start l.first (l.y + 1);
}
