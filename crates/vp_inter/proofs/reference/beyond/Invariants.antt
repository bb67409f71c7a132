use Rattle.std.proofs.Common.{◌≡◌, ℕ, ◌<◌, get_or, length, pos, ◌+ℤ◌}
use Rattle.vp_inter.specs.Inter.{nearest}
use Rattle.vp_inter.proofs.reference.beyond.Given as goal

abbrev pub invariant-loop-c : goal.invariant-loop-c
invariant-loop-c l = record { size : length l.pixels ≡ 32; done : (k : ℕ) → k < l.c → get_or l.pixels k 0 ≡ get_or l.line (nearest (length l.line) (l.left +ℤ pos k)) 0 }
