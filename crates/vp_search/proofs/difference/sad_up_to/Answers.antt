use Rattle.std.proofs.Common.{arith}
use Rattle.vp_search.proofs.RowLemmas.{by_fours}
use Rattle.vp_search.proofs.difference.sad_up_to.Goals as goal

pub returns-then-most-limit-clause-within : goal.returns-then-most-limit-clause-within
returns-then-most-limit-clause-within c =
    let e = by_fours c.args.block.now c.args.window.now c.args.at c.args.stride in
    (λ h. absurd (omega arith), λ h. omega (arith, c.four_rows.ensures.value, c.four_rows-2.ensures.value, c.four_rows-3.ensures.value))

pub returns-clause-within : goal.returns-clause-within
returns-clause-within c =
    let e = by_fours c.args.block.now c.args.window.now c.args.at c.args.stride in (
      λ h. omega (arith, c.four_rows.ensures.value, c.four_rows-2.ensures.value, c.four_rows-3.ensures.value, c.four_rows-4.ensures.value),
      λ h. omega (arith, c.four_rows.ensures.value, c.four_rows-2.ensures.value, c.four_rows-3.ensures.value, c.four_rows-4.ensures.value),
    )
