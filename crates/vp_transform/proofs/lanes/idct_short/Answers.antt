use Rattle.std.proofs.Common.{◌∙◌, arith}
use Rattle.vp_transform.proofs.Mixing.{rows_of, idct_block, first-within, second-within, third-within, fourth-within}
use Rattle.vp_transform.proofs.lanes.idct_short.Goals as goal

pub inverse_rows-requires-clause-first : goal.inverse_rows-requires-clause-first
inverse_rows-requires-clause-first c =
    let x = c.args.block.now in
    let rows = rows_of 8191 x c.short_row.result c.short_row-2.result c.short_row-3.result c.short_row-4.result (omega arith) c.requires c.short_row.ensures c.short_row-2.ensures c.short_row-3.ensures c.short_row-4.ensures in
    first-within 8192 (omega arith) rows

pub inverse_rows-requires-clause-second : goal.inverse_rows-requires-clause-second
inverse_rows-requires-clause-second c =
    let x = c.args.block.now in
    let rows = rows_of 8191 x c.short_row.result c.short_row-2.result c.short_row-3.result c.short_row-4.result (omega arith) c.requires c.short_row.ensures c.short_row-2.ensures c.short_row-3.ensures c.short_row-4.ensures in
    second-within 8192 (omega arith) rows

pub inverse_rows-requires-clause-third : goal.inverse_rows-requires-clause-third
inverse_rows-requires-clause-third c =
    let x = c.args.block.now in
    let rows = rows_of 8191 x c.short_row.result c.short_row-2.result c.short_row-3.result c.short_row-4.result (omega arith) c.requires c.short_row.ensures c.short_row-2.ensures c.short_row-3.ensures c.short_row-4.ensures in
    third-within 8192 (omega arith) rows

pub inverse_rows-requires-clause-fourth : goal.inverse_rows-requires-clause-fourth
inverse_rows-requires-clause-fourth c =
    let x = c.args.block.now in
    let rows = rows_of 8191 x c.short_row.result c.short_row-2.result c.short_row-3.result c.short_row-4.result (omega arith) c.requires c.short_row.ensures c.short_row-2.ensures c.short_row-3.ensures c.short_row-4.ensures in
    fourth-within 8192 (omega arith) rows

pub short_joined-requires-clause-first : goal.short_joined-requires-clause-first
short_joined-requires-clause-first c =
    let x = c.args.block.now in
    let rows = rows_of 8191 x c.short_row.result c.short_row-2.result c.short_row-3.result c.short_row-4.result (omega arith) c.requires c.short_row.ensures c.short_row-2.ensures c.short_row-3.ensures c.short_row-4.ensures in
    let back = idct_block 8191 x rows c.inverse_rows.result.0 c.inverse_rows.result.1 c.inverse_rows.result.2 c.inverse_rows.result.3 (omega arith) c.requires c.inverse_rows.ensures in
    first-within 32764 (omega arith) back

pub short_joined-requires-clause-second : goal.short_joined-requires-clause-second
short_joined-requires-clause-second c =
    let x = c.args.block.now in
    let rows = rows_of 8191 x c.short_row.result c.short_row-2.result c.short_row-3.result c.short_row-4.result (omega arith) c.requires c.short_row.ensures c.short_row-2.ensures c.short_row-3.ensures c.short_row-4.ensures in
    let back = idct_block 8191 x rows c.inverse_rows.result.0 c.inverse_rows.result.1 c.inverse_rows.result.2 c.inverse_rows.result.3 (omega arith) c.requires c.inverse_rows.ensures in
    second-within 32764 (omega arith) back

pub short_joined-requires-clause-third : goal.short_joined-requires-clause-third
short_joined-requires-clause-third c =
    let x = c.args.block.now in
    let rows = rows_of 8191 x c.short_row.result c.short_row-2.result c.short_row-3.result c.short_row-4.result (omega arith) c.requires c.short_row.ensures c.short_row-2.ensures c.short_row-3.ensures c.short_row-4.ensures in
    let back = idct_block 8191 x rows c.inverse_rows.result.0 c.inverse_rows.result.1 c.inverse_rows.result.2 c.inverse_rows.result.3 (omega arith) c.requires c.inverse_rows.ensures in
    third-within 32764 (omega arith) back

pub short_joined-requires-clause-fourth : goal.short_joined-requires-clause-fourth
short_joined-requires-clause-fourth c =
    let x = c.args.block.now in
    let rows = rows_of 8191 x c.short_row.result c.short_row-2.result c.short_row-3.result c.short_row-4.result (omega arith) c.requires c.short_row.ensures c.short_row-2.ensures c.short_row-3.ensures c.short_row-4.ensures in
    let back = idct_block 8191 x rows c.inverse_rows.result.0 c.inverse_rows.result.1 c.inverse_rows.result.2 c.inverse_rows.result.3 (omega arith) c.requires c.inverse_rows.ensures in
    fourth-within 32764 (omega arith) back

pub returns : goal.returns
returns c =
    let x = c.args.block.now in
    let rows = rows_of 8191 x c.short_row.result c.short_row-2.result c.short_row-3.result c.short_row-4.result (omega arith) c.requires c.short_row.ensures c.short_row-2.ensures c.short_row-3.ensures c.short_row-4.ensures in
    let back = idct_block 8191 x rows c.inverse_rows.result.0 c.inverse_rows.result.1 c.inverse_rows.result.2 c.inverse_rows.result.3 (omega arith) c.requires c.inverse_rows.ensures in
    c.short_joined.ensures ∙ back.passed
