use Rattle.std.proofs.Common.{◌≡◌, ℕ, ◌+◌, ◌*◌, ◌<◌, get_or}
use Rattle.vp_search.specs.declared.window.TheConstants.{WINDOW_WIDTH}
use Rattle.vp_search.specs.Window.{searched_pixel}
use Rattle.vp_search.proofs.window.cut_window.Given as goal

abbrev pub invariant-loop-i : goal.invariant-loop-i
invariant-loop-i l = (k j : ℕ) → k < l.i → j < 2 * l.range + 16 → get_or l.window (k * WINDOW_WIDTH + j) 0 ≡ searched_pixel l.reference l.fn.place l.range k j
