use Rattle.vp_bool.specs.Reader.{rows}
use Rattle.vp_bool.specs.Writing.{Writes}
use Rattle.vp_decode.specs.MacroblockMaps.{macroblock_read, place}
use Rattle.vp_encode.specs.Written.{AreWrittenBefore, maps_at}
use Rattle.vp_encode.proofs.modes_and_motion.write_row_of_modes.Given as goal

abbrev pub invariant-loop-column : goal.invariant-loop-column
invariant-loop-column l = record {
  so_far : Writes (rows l.column (λ column. macroblock_read l.coded.header (place l.row column)) (maps_at l.coded (place l.row 0) l.initial.modes)) l.initial.e l.e
      (maps_at l.coded (place l.row l.column) l.modes);
  before : AreWrittenBefore l.coded (place l.row l.column) l.modes;
}
