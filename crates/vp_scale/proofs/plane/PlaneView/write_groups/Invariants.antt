use Rattle.std.proofs.Common.{◌≡◌, ◌<◌, ◌*◌, ℕ, get_or, drop}
use Rattle.vp_scale.specs.Means.{mean_at}
use Rattle.vp_scale.proofs.plane.PlaneView.write_groups.Given as goal

abbrev pub invariant-loop-g : goal.invariant-loop-g
invariant-loop-g l = record {
  means : (c : ℕ) → c < 8 * l.g → get_or l.row c 0 ≡ mean_at l.k l.self c l.y;
  behind : drop (8 * l.groups) l.row ≡ drop (8 * l.groups) l.initial.row;
}
