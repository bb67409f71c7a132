use Rattle.std.proofs.Common.{[]}
use Rattle.vp_bool.specs.Reader.{each}
use Rattle.vp_bool.specs.Writing.{Writes}
use Rattle.vp_head.specs.Probabilities.{component_at}
use Rattle.vp_tables.specs.declared.mode_probabilities.TheConstants.{VECTOR_UPDATES}
use Rattle.vp_head.proofs.Mixed.{mixed}
use Rattle.vp_head.proofs.probability_writing.write_vectors.Given as goal

abbrev pub invariant-loop-i : goal.invariant-loop-i
invariant-loop-i l = Writes (each [] l.i (component_at VECTOR_UPDATES) l.old) l.fn.e l.e (mixed l.i l.new l.old)
