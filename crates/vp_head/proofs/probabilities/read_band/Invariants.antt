use Rattle.std.proofs.Common.{◌≡◌, [], length}
use Rattle.vp_bool.specs.Reader.{each}
use Rattle.vp_head.specs.Probabilities.{context_at}
use Rattle.vp_head.proofs.probabilities.read_band.Given as goal

abbrev pub invariant-loop-i : goal.invariant-loop-i
invariant-loop-i l = record { len : length l.old ≡ 3; so_far : each [] l.i (context_at l.table) l.fn.old l.fn.d ≡ (l.old, l.d) }
