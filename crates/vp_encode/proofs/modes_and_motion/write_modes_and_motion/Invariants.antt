use Rattle.vp_bool.specs.Reader.{rows}
use Rattle.vp_bool.specs.Writing.{Writes}
use Rattle.vp_decode.specs.MacroblockMaps.{row_read, place}
use Rattle.vp_encode.specs.Written.{AreWrittenBefore, maps_at}
use Rattle.vp_encode.proofs.modes_and_motion.write_modes_and_motion.Given as goal

abbrev pub invariant-loop-row : goal.invariant-loop-row
invariant-loop-row l = record {
  so_far : Writes (rows l.row (row_read l.coded.header l.coded.macroblocks.columns) (maps_at l.coded (place 0 0) l.initial.modes)) l.initial.e l.e
      (maps_at l.coded (place l.row 0) l.modes);
  before : AreWrittenBefore l.coded (place l.row 0) l.modes;
}
