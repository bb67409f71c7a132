use Rattle.std.proofs.Common.{◌≡◌, replicate}
use Rattle.vp_bool.specs.Reader.{rows}
use Rattle.vp_bool.specs.Writing.{Writes}
use Rattle.vp_tables.specs.declared.modes.SubMode.TheVariants as sub_is
use Rattle.vp_head.proofs.Mixed.{mixed}
use Rattle.vp_modes.specs.Modes.{sub_row}
use Rattle.vp_modes.proofs.writing.write_subs.Given as goal

abbrev pub invariant-loop-k : goal.invariant-loop-k
invariant-loop-k l = record {
  written : l.written ≡ mixed l.k l.modes (replicate 16 sub_is.Dc);
  so_far : Writes (rows l.k (sub_row l.header l.map l.place) (replicate 16 sub_is.Dc)) l.fn.e l.e l.written;
}
