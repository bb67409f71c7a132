use Rattle.vp_bool.specs.Reader.{each}
use Rattle.vp_bool.specs.Writing.{Writes}
use Rattle.vp_head.specs.Probabilities.{vector_entry_at}
use Rattle.vp_head.proofs.Mixed.{mixed}
use Rattle.vp_head.proofs.probability_writing.write_component.Given as goal

abbrev pub invariant-loop-i : goal.invariant-loop-i
invariant-loop-i l = Writes (each 0 l.i (vector_entry_at l.table) l.old) l.fn.e l.e (mixed l.i l.new l.old)
