use Rattle.std.proofs.Common.{ℤ, List, subst, sym, ◌^◌, ◌∙◌, arith}
use Rattle.vp_transform.proofs.Halving.{halved_block, fwht_in_steps}
use Rattle.vp_transform.proofs.Mixing.{passed-within, first-within, second-within, third-within, fourth-within, rows_of, mixed_block, exchanged_block}
use Rattle.vp_transform.proofs.Waves.{fwht-within}
use Rattle.vp_transform.specs.Fits.{EachWithin}
use Rattle.vp_transform.proofs.hadamard_lanes.fwht_short.Goals as goal

pub mix-requires : goal.mix-requires
mix-requires c =
    let x = c.args.block.now in
    let rows = rows_of 2040 x c.short_row.result c.short_row-2.result c.short_row-3.result c.short_row-4.result (omega arith) c.requires c.short_row.ensures c.short_row-2.ensures c.short_row-3.ensures c.short_row-4.ensures in
    passed-within (2 ^ 28) (omega arith) rows

pub mix-requires-2 : goal.mix-requires-2
mix-requires-2 c =
    let x = c.args.block.now in
    let rows = rows_of 2040 x c.short_row.result c.short_row-2.result c.short_row-3.result c.short_row-4.result (omega arith) c.requires c.short_row.ensures c.short_row-2.ensures c.short_row-3.ensures c.short_row-4.ensures in
    let down = mixed_block rows c.mix.result.0 c.mix.result.1 c.mix.result.2 c.mix.result.3 (omega arith) c.mix.ensures in
    let turned = exchanged_block down c.transpose.result.0 c.transpose.result.1 c.transpose.result.2 c.transpose.result.3 (omega arith) c.transpose.ensures.first c.transpose.ensures.second c.transpose.ensures.third c.transpose.ensures.fourth in
    passed-within (2 ^ 28) (omega arith) turned

pub halved-requires : goal.halved-requires
halved-requires c =
    let x = c.args.block.now in
    let rows = rows_of 2040 x c.short_row.result c.short_row-2.result c.short_row-3.result c.short_row-4.result (omega arith) c.requires c.short_row.ensures c.short_row-2.ensures c.short_row-3.ensures c.short_row-4.ensures in
    let down = mixed_block rows c.mix.result.0 c.mix.result.1 c.mix.result.2 c.mix.result.3 (omega arith) c.mix.ensures in
    let turned = exchanged_block down c.transpose.result.0 c.transpose.result.1 c.transpose.result.2 c.transpose.result.3 (omega arith) c.transpose.ensures.first c.transpose.ensures.second c.transpose.ensures.third c.transpose.ensures.fourth in
    let along = mixed_block turned c.mix-2.result.0 c.mix-2.result.1 c.mix-2.result.2 c.mix-2.result.3 (omega arith) c.mix-2.ensures in
    passed-within (2 ^ 30) (omega arith) along

pub short_joined-requires-clause-first : goal.short_joined-requires-clause-first
short_joined-requires-clause-first c =
    let x = c.args.block.now in
    let rows = rows_of 2040 x c.short_row.result c.short_row-2.result c.short_row-3.result c.short_row-4.result (omega arith) c.requires c.short_row.ensures c.short_row-2.ensures c.short_row-3.ensures c.short_row-4.ensures in
    let down = mixed_block rows c.mix.result.0 c.mix.result.1 c.mix.result.2 c.mix.result.3 (omega arith) c.mix.ensures in
    let turned = exchanged_block down c.transpose.result.0 c.transpose.result.1 c.transpose.result.2 c.transpose.result.3 (omega arith) c.transpose.ensures.first c.transpose.ensures.second c.transpose.ensures.third c.transpose.ensures.fourth in
    let along = mixed_block turned c.mix-2.result.0 c.mix-2.result.1 c.mix-2.result.2 c.mix-2.result.3 (omega arith) c.mix-2.ensures in
    let even = halved_block 16320 along c.halved.result.0 c.halved.result.1 c.halved.result.2 c.halved.result.3 (omega arith) c.halved.ensures in
    let back = exchanged_block even c.transpose-2.result.0 c.transpose-2.result.1 c.transpose-2.result.2 c.transpose-2.result.3 (omega arith) c.transpose-2.ensures.first c.transpose-2.ensures.second c.transpose-2.ensures.third c.transpose-2.ensures.fourth in
    first-within 32764 (omega arith) back

pub short_joined-requires-clause-second : goal.short_joined-requires-clause-second
short_joined-requires-clause-second c =
    let x = c.args.block.now in
    let rows = rows_of 2040 x c.short_row.result c.short_row-2.result c.short_row-3.result c.short_row-4.result (omega arith) c.requires c.short_row.ensures c.short_row-2.ensures c.short_row-3.ensures c.short_row-4.ensures in
    let down = mixed_block rows c.mix.result.0 c.mix.result.1 c.mix.result.2 c.mix.result.3 (omega arith) c.mix.ensures in
    let turned = exchanged_block down c.transpose.result.0 c.transpose.result.1 c.transpose.result.2 c.transpose.result.3 (omega arith) c.transpose.ensures.first c.transpose.ensures.second c.transpose.ensures.third c.transpose.ensures.fourth in
    let along = mixed_block turned c.mix-2.result.0 c.mix-2.result.1 c.mix-2.result.2 c.mix-2.result.3 (omega arith) c.mix-2.ensures in
    let even = halved_block 16320 along c.halved.result.0 c.halved.result.1 c.halved.result.2 c.halved.result.3 (omega arith) c.halved.ensures in
    let back = exchanged_block even c.transpose-2.result.0 c.transpose-2.result.1 c.transpose-2.result.2 c.transpose-2.result.3 (omega arith) c.transpose-2.ensures.first c.transpose-2.ensures.second c.transpose-2.ensures.third c.transpose-2.ensures.fourth in
    second-within 32764 (omega arith) back

pub short_joined-requires-clause-third : goal.short_joined-requires-clause-third
short_joined-requires-clause-third c =
    let x = c.args.block.now in
    let rows = rows_of 2040 x c.short_row.result c.short_row-2.result c.short_row-3.result c.short_row-4.result (omega arith) c.requires c.short_row.ensures c.short_row-2.ensures c.short_row-3.ensures c.short_row-4.ensures in
    let down = mixed_block rows c.mix.result.0 c.mix.result.1 c.mix.result.2 c.mix.result.3 (omega arith) c.mix.ensures in
    let turned = exchanged_block down c.transpose.result.0 c.transpose.result.1 c.transpose.result.2 c.transpose.result.3 (omega arith) c.transpose.ensures.first c.transpose.ensures.second c.transpose.ensures.third c.transpose.ensures.fourth in
    let along = mixed_block turned c.mix-2.result.0 c.mix-2.result.1 c.mix-2.result.2 c.mix-2.result.3 (omega arith) c.mix-2.ensures in
    let even = halved_block 16320 along c.halved.result.0 c.halved.result.1 c.halved.result.2 c.halved.result.3 (omega arith) c.halved.ensures in
    let back = exchanged_block even c.transpose-2.result.0 c.transpose-2.result.1 c.transpose-2.result.2 c.transpose-2.result.3 (omega arith) c.transpose-2.ensures.first c.transpose-2.ensures.second c.transpose-2.ensures.third c.transpose-2.ensures.fourth in
    third-within 32764 (omega arith) back

pub short_joined-requires-clause-fourth : goal.short_joined-requires-clause-fourth
short_joined-requires-clause-fourth c =
    let x = c.args.block.now in
    let rows = rows_of 2040 x c.short_row.result c.short_row-2.result c.short_row-3.result c.short_row-4.result (omega arith) c.requires c.short_row.ensures c.short_row-2.ensures c.short_row-3.ensures c.short_row-4.ensures in
    let down = mixed_block rows c.mix.result.0 c.mix.result.1 c.mix.result.2 c.mix.result.3 (omega arith) c.mix.ensures in
    let turned = exchanged_block down c.transpose.result.0 c.transpose.result.1 c.transpose.result.2 c.transpose.result.3 (omega arith) c.transpose.ensures.first c.transpose.ensures.second c.transpose.ensures.third c.transpose.ensures.fourth in
    let along = mixed_block turned c.mix-2.result.0 c.mix-2.result.1 c.mix-2.result.2 c.mix-2.result.3 (omega arith) c.mix-2.ensures in
    let even = halved_block 16320 along c.halved.result.0 c.halved.result.1 c.halved.result.2 c.halved.result.3 (omega arith) c.halved.ensures in
    let back = exchanged_block even c.transpose-2.result.0 c.transpose-2.result.1 c.transpose-2.result.2 c.transpose-2.result.3 (omega arith) c.transpose-2.ensures.first c.transpose-2.ensures.second c.transpose-2.ensures.third c.transpose-2.ensures.fourth in
    fourth-within 32764 (omega arith) back

pub returns-clause-value : goal.returns-clause-value
returns-clause-value c =
    let x = c.args.block.now in
    let rows = rows_of 2040 x c.short_row.result c.short_row-2.result c.short_row-3.result c.short_row-4.result (omega arith) c.requires c.short_row.ensures c.short_row-2.ensures c.short_row-3.ensures c.short_row-4.ensures in
    let down = mixed_block rows c.mix.result.0 c.mix.result.1 c.mix.result.2 c.mix.result.3 (omega arith) c.mix.ensures in
    let turned = exchanged_block down c.transpose.result.0 c.transpose.result.1 c.transpose.result.2 c.transpose.result.3 (omega arith) c.transpose.ensures.first c.transpose.ensures.second c.transpose.ensures.third c.transpose.ensures.fourth in
    let along = mixed_block turned c.mix-2.result.0 c.mix-2.result.1 c.mix-2.result.2 c.mix-2.result.3 (omega arith) c.mix-2.ensures in
    let even = halved_block 16320 along c.halved.result.0 c.halved.result.1 c.halved.result.2 c.halved.result.3 (omega arith) c.halved.ensures in
    let back = exchanged_block even c.transpose-2.result.0 c.transpose-2.result.1 c.transpose-2.result.2 c.transpose-2.result.3 (omega arith) c.transpose-2.ensures.first c.transpose-2.ensures.second c.transpose-2.ensures.third c.transpose-2.ensures.fourth in
    c.short_joined.ensures ∙ back.passed ∙ fwht_in_steps x

pub returns-clause-within : goal.returns-clause-within
returns-clause-within c =
    let x = c.args.block.now in
    let rows = rows_of 2040 x c.short_row.result c.short_row-2.result c.short_row-3.result c.short_row-4.result (omega arith) c.requires c.short_row.ensures c.short_row-2.ensures c.short_row-3.ensures c.short_row-4.ensures in
    let down = mixed_block rows c.mix.result.0 c.mix.result.1 c.mix.result.2 c.mix.result.3 (omega arith) c.mix.ensures in
    let turned = exchanged_block down c.transpose.result.0 c.transpose.result.1 c.transpose.result.2 c.transpose.result.3 (omega arith) c.transpose.ensures.first c.transpose.ensures.second c.transpose.ensures.third c.transpose.ensures.fourth in
    let along = mixed_block turned c.mix-2.result.0 c.mix-2.result.1 c.mix-2.result.2 c.mix-2.result.3 (omega arith) c.mix-2.ensures in
    let even = halved_block 16320 along c.halved.result.0 c.halved.result.1 c.halved.result.2 c.halved.result.3 (omega arith) c.halved.ensures in
    let back = exchanged_block even c.transpose-2.result.0 c.transpose-2.result.1 c.transpose-2.result.2 c.transpose-2.result.3 (omega arith) c.transpose-2.ensures.first c.transpose-2.ensures.second c.transpose-2.ensures.third c.transpose-2.ensures.fourth in
    subst (λ (v : List ℤ). EachWithin 16320 v) (sym (c.short_joined.ensures ∙ back.passed ∙ fwht_in_steps x)) (fwht-within 2040 x c.requires)
