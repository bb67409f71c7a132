use Rattle.std.proofs.Common.{[]}
use Rattle.vp_bool.specs.Reader.{each}
use Rattle.vp_bool.specs.Writing.{Writes}
use Rattle.vp_head.specs.Probabilities.{type_at}
use Rattle.vp_tables.specs.Tables.{coefficient_updates}
use Rattle.vp_head.proofs.Mixed.{mixed}
use Rattle.vp_head.proofs.probability_writing.write_coefficients.Given as goal

abbrev pub invariant-loop-i : goal.invariant-loop-i
invariant-loop-i l = Writes (each [] l.i (type_at coefficient_updates) l.old) l.fn.e l.e (mixed l.i l.new l.old)
