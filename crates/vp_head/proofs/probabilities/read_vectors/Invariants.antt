use Rattle.std.proofs.Common.{◌≡◌, [], length}
use Rattle.vp_bool.specs.Reader.{each}
use Rattle.vp_head.specs.Probabilities.{component_at}
use Rattle.vp_tables.specs.declared.mode_probabilities.TheConstants.{VECTOR_UPDATES}
use Rattle.vp_head.proofs.probabilities.read_vectors.Given as goal

abbrev pub invariant-loop-i : goal.invariant-loop-i
invariant-loop-i l = record { len : length l.old ≡ 2; so_far : each [] l.i (component_at VECTOR_UPDATES) l.fn.old l.fn.d ≡ (l.old, l.d) }
