use Rattle.vp_decode.proofs.Words.{◌≡◌, ◌*◌, rows, row_read, maps_so_far, IsAhead}
use Rattle.vp_decode.proofs.macroblock_reader.MacroblockReader.read.Given as goal

abbrev pub invariant-loop-row : goal.invariant-loop-row
invariant-loop-row l = record {
  so_far : rows l.row (row_read l.header l.initial.reader.columns) (maps_so_far l.initial.reader) l.initial.d ≡ (maps_so_far l.reader, l.d);
  ahead : IsAhead l.initial.reader l.reader (l.row * l.initial.reader.columns);
}
