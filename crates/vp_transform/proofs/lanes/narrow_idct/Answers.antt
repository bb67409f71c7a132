use Rattle.std.proofs.Common.{◌∙◌, arith}
use Rattle.vp_transform.proofs.Mixing.{rows_of, idct_block, first-within, second-within, third-within, fourth-within}
use Rattle.vp_transform.proofs.lanes.narrow_idct.Goals as goal

pub inverse_rows-requires-clause-first : goal.inverse_rows-requires-clause-first
inverse_rows-requires-clause-first c =
    let x = c.args.block.now in
    let rows = rows_of 8192 x c.row.result c.row-2.result c.row-3.result c.row-4.result (omega arith) c.requires c.row.ensures c.row-2.ensures c.row-3.ensures c.row-4.ensures in
    first-within 8192 (omega arith) rows

pub inverse_rows-requires-clause-second : goal.inverse_rows-requires-clause-second
inverse_rows-requires-clause-second c =
    let x = c.args.block.now in
    let rows = rows_of 8192 x c.row.result c.row-2.result c.row-3.result c.row-4.result (omega arith) c.requires c.row.ensures c.row-2.ensures c.row-3.ensures c.row-4.ensures in
    second-within 8192 (omega arith) rows

pub inverse_rows-requires-clause-third : goal.inverse_rows-requires-clause-third
inverse_rows-requires-clause-third c =
    let x = c.args.block.now in
    let rows = rows_of 8192 x c.row.result c.row-2.result c.row-3.result c.row-4.result (omega arith) c.requires c.row.ensures c.row-2.ensures c.row-3.ensures c.row-4.ensures in
    third-within 8192 (omega arith) rows

pub inverse_rows-requires-clause-fourth : goal.inverse_rows-requires-clause-fourth
inverse_rows-requires-clause-fourth c =
    let x = c.args.block.now in
    let rows = rows_of 8192 x c.row.result c.row-2.result c.row-3.result c.row-4.result (omega arith) c.requires c.row.ensures c.row-2.ensures c.row-3.ensures c.row-4.ensures in
    fourth-within 8192 (omega arith) rows

pub returns : goal.returns
returns c =
    let x = c.args.block.now in
    let rows = rows_of 8192 x c.row.result c.row-2.result c.row-3.result c.row-4.result (omega arith) c.requires c.row.ensures c.row-2.ensures c.row-3.ensures c.row-4.ensures in
    let back = idct_block 8192 x rows c.inverse_rows.result.0 c.inverse_rows.result.1 c.inverse_rows.result.2 c.inverse_rows.result.3 (omega arith) c.requires c.inverse_rows.ensures in
    c.joined.ensures ∙ back.passed
