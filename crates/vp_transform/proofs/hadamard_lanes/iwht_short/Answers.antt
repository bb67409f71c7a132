use Rattle.std.proofs.Common.{ℤ, List, ◌^◌, ◌*◌, ◌∙◌, subst, sym, arith}
use Rattle.vp_transform.proofs.Bounds.{iwht-within}
use Rattle.vp_transform.proofs.Mixing.{passed-within, first-within, second-within, third-within, fourth-within, rows_of, mixed_block, exchanged_block, rounded_block, iwht_in_steps}
use Rattle.vp_transform.specs.Fits.{EachWithin}
use Rattle.vp_transform.proofs.hadamard_lanes.iwht_short.Goals as goal

pub mix-requires : goal.mix-requires
mix-requires c =
    let x = c.args.block.now in
    let rows = rows_of 8191 x c.short_row.result c.short_row-2.result c.short_row-3.result c.short_row-4.result (omega arith) c.requires c.short_row.ensures c.short_row-2.ensures c.short_row-3.ensures c.short_row-4.ensures in
    passed-within (2 ^ 28) (omega arith) rows

pub mix-requires-2 : goal.mix-requires-2
mix-requires-2 c =
    let x = c.args.block.now in
    let rows = rows_of 8191 x c.short_row.result c.short_row-2.result c.short_row-3.result c.short_row-4.result (omega arith) c.requires c.short_row.ensures c.short_row-2.ensures c.short_row-3.ensures c.short_row-4.ensures in
    let down = mixed_block rows c.mix.result.0 c.mix.result.1 c.mix.result.2 c.mix.result.3 (omega arith) c.mix.ensures in
    let turned = exchanged_block down c.transpose.result.0 c.transpose.result.1 c.transpose.result.2 c.transpose.result.3 (omega arith) c.transpose.ensures.first c.transpose.ensures.second c.transpose.ensures.third c.transpose.ensures.fourth in
    passed-within (2 ^ 28) (omega arith) turned

pub rounded-requires : goal.rounded-requires
rounded-requires c =
    let x = c.args.block.now in
    let rows = rows_of 8191 x c.short_row.result c.short_row-2.result c.short_row-3.result c.short_row-4.result (omega arith) c.requires c.short_row.ensures c.short_row-2.ensures c.short_row-3.ensures c.short_row-4.ensures in
    let down = mixed_block rows c.mix.result.0 c.mix.result.1 c.mix.result.2 c.mix.result.3 (omega arith) c.mix.ensures in
    let turned = exchanged_block down c.transpose.result.0 c.transpose.result.1 c.transpose.result.2 c.transpose.result.3 (omega arith) c.transpose.ensures.first c.transpose.ensures.second c.transpose.ensures.third c.transpose.ensures.fourth in
    let along = mixed_block turned c.mix-2.result.0 c.mix-2.result.1 c.mix-2.result.2 c.mix-2.result.3 (omega arith) c.mix-2.ensures in
    passed-within (2 ^ 30) (omega arith) along

pub short_joined-requires : goal.short_joined-requires
short_joined-requires c =
    let x = c.args.block.now in
    let rows = rows_of 8191 x c.short_row.result c.short_row-2.result c.short_row-3.result c.short_row-4.result (omega arith) c.requires c.short_row.ensures c.short_row-2.ensures c.short_row-3.ensures c.short_row-4.ensures in
    let down = mixed_block rows c.mix.result.0 c.mix.result.1 c.mix.result.2 c.mix.result.3 (omega arith) c.mix.ensures in
    let turned = exchanged_block down c.transpose.result.0 c.transpose.result.1 c.transpose.result.2 c.transpose.result.3 (omega arith) c.transpose.ensures.first c.transpose.ensures.second c.transpose.ensures.third c.transpose.ensures.fourth in
    let along = mixed_block turned c.mix-2.result.0 c.mix-2.result.1 c.mix-2.result.2 c.mix-2.result.3 (omega arith) c.mix-2.ensures in
    let even = rounded_block 16382 along c.rounded.result.0 c.rounded.result.1 c.rounded.result.2 c.rounded.result.3 (omega arith) c.rounded.ensures in
    let back = exchanged_block even c.transpose-2.result.0 c.transpose-2.result.1 c.transpose-2.result.2 c.transpose-2.result.3 (omega arith) c.transpose-2.ensures.first c.transpose-2.ensures.second c.transpose-2.ensures.third c.transpose-2.ensures.fourth in
    record {
      first = first-within 32764 (omega arith) back;
      second = second-within 32764 (omega arith) back;
      third = third-within 32764 (omega arith) back;
      fourth = fourth-within 32764 (omega arith) back;
    }

pub returns : goal.returns
returns c =
    let x = c.args.block.now in
    let rows = rows_of 8191 x c.short_row.result c.short_row-2.result c.short_row-3.result c.short_row-4.result (omega arith) c.requires c.short_row.ensures c.short_row-2.ensures c.short_row-3.ensures c.short_row-4.ensures in
    let down = mixed_block rows c.mix.result.0 c.mix.result.1 c.mix.result.2 c.mix.result.3 (omega arith) c.mix.ensures in
    let turned = exchanged_block down c.transpose.result.0 c.transpose.result.1 c.transpose.result.2 c.transpose.result.3 (omega arith) c.transpose.ensures.first c.transpose.ensures.second c.transpose.ensures.third c.transpose.ensures.fourth in
    let along = mixed_block turned c.mix-2.result.0 c.mix-2.result.1 c.mix-2.result.2 c.mix-2.result.3 (omega arith) c.mix-2.ensures in
    let even = rounded_block 16382 along c.rounded.result.0 c.rounded.result.1 c.rounded.result.2 c.rounded.result.3 (omega arith) c.rounded.ensures in
    let back = exchanged_block even c.transpose-2.result.0 c.transpose-2.result.1 c.transpose-2.result.2 c.transpose-2.result.3 (omega arith) c.transpose-2.ensures.first c.transpose-2.ensures.second c.transpose-2.ensures.third c.transpose-2.ensures.fourth in
    let same = c.short_joined.ensures ∙ back.passed ∙ iwht_in_steps x in
    record { value = same; within = λ b h. subst (λ (v : List ℤ). EachWithin (2 * b) v) (sym same) (iwht-within b x h) }
