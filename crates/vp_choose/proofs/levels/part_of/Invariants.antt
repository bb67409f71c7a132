use Rattle.std.proofs.Common.{◌≡◌, ℕ, ◌+◌, ◌*◌, ◌/◌, ◌%◌, ◌<◌, length, get_or}
use Rattle.vp_choose.proofs.levels.part_of.Given as goal

abbrev pub invariant-loop-i : goal.invariant-loop-i
invariant-loop-i g l = record {
  size : length l.part ≡ 16;
  done : (i : ℕ) → i < l.i → get_or l.part i 0 ≡ get_or l.block (l.first + i / 4 * l.width + i % 4) 0;
}
