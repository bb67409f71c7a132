use Rattle.std.proofs.Common.{◌≡◌, ℕ, ◌+◌, ◌<◌, get_or}
use Rattle.vp_search.proofs.window.put_same.Given as goal

abbrev pub invariant-loop-c : goal.invariant-loop-c
invariant-loop-c l = record {
  here : (c : ℕ) → c < l.c → get_or l.window (l.at + c) 0 ≡ l.pixel;
  before : (k : ℕ) → k < l.at → get_or l.window k 0 ≡ get_or l.initial.window k 0;
}
