use Rattle.std.proofs.Common.{◌≡◌, ◌<◌, ◌≤◌, ℕ, get_or, drop}
use Rattle.vp_scale.specs.Means.{mean_at}
use Rattle.vp_scale.proofs.plane.PlaneView.write_rest.Given as goal

abbrev pub invariant-loop-x : goal.invariant-loop-x
invariant-loop-x l = record {
  means : (c : ℕ) → l.from ≤ c → c < l.x → get_or l.row c 0 ≡ mean_at l.k l.self c l.y;
  before : (c : ℕ) → c < l.from → get_or l.row c 0 ≡ get_or l.initial.row c 0;
  behind : drop l.width l.row ≡ drop l.width l.initial.row;
}
