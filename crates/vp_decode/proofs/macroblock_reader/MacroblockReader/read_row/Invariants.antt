use Rattle.vp_decode.proofs.Words.{◌≡◌, rows, macroblock_read, place, maps_so_far, IsAhead}
use Rattle.vp_decode.proofs.macroblock_reader.MacroblockReader.read_row.Given as goal

abbrev pub invariant-loop-column : goal.invariant-loop-column
invariant-loop-column l = record {
  so_far : rows l.column (λ column. macroblock_read l.header (place l.row column)) (maps_so_far l.initial.self) l.fn.d ≡ (maps_so_far l.self, l.own);
  ahead : IsAhead l.initial.self l.self l.column;
}
