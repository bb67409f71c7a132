use Rattle.vp_decode.proofs.Words.{◌≡◌, ◌∙◌, ◌+◌, ◌*◌, refl, sym, ap, arith, rows-more, rows-none, gives, macroblock_read, row_read, place}
use Rattle.vp_decode.proofs.MacroblockLists.{none-ahead, then-ahead}
use Rattle.vp_decode.proofs.macroblock_reader.MacroblockReader.read_row.Goals as goal

pub loop-column-init : goal.loop-column-init
loop-column-init c = record { so_far = rw (c.copy-own.ensures) (rows-none _ _ _); ahead = none-ahead c.args.self.now }

pub read_next-requires : goal.read_next-requires
read_next-requires c =
    let ahead = c.loop-column.invariant.ahead in
    record {
      inside = record { column = omega (arith, c.loop-column-test.true, c.columns-column-end.ensures.value, ahead.columns); row = omega (arith, c.requires.row, ahead.rows) };
      number = ahead.read ∙ ap (λ n. n + c.loop-column.column) (c.requires.next ∙ ap (λ n. c.args.row * n) (sym ahead.columns));
    }

pub loop-column-preserved : goal.loop-column-preserved
loop-column-preserved c =
    let made = c.loop-column.invariant in
    let next = c.read_next.ensures in
    record {
      so_far = rows-more c.loop-column.column (λ column. macroblock_read c.args.header.now (place c.args.row column)) _ _ _ _ _ _ made.so_far
          (λ i. (sym next.maps i, sym next.rest i));
      ahead = then-ahead c.args.self.now c.loop-column.self c.read_next.new.self c.loop-column.column 1 _ made.ahead next.ahead refl;
    }

pub returns : goal.returns
unfolding row_read
returns c =
    let made = c.loop-column.invariant in
    let all : c.loop-column.column ≡ c.args.self.now.columns = omega (arith, c.loop-column-test.false, c.loop-column.auto.column-end, c.columns-column-end.ensures.value) in
    let h = gives _ _ _ (rw all at made.so_far) in
    record { maps = h.value; rest = h.rest; ahead = rw all at made.ahead }
