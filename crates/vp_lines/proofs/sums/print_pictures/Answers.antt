use Rattle.std.proofs.Common.{◌++◌, ◌∷◌, [], arith}
use Rattle.std.proofs.lemmas.List.{length-append}
use Rattle.vp_lines.proofs.SumLemmas.{next_picture}
use Rattle.vp_lines.proofs.sums.print_pictures.Goals as goal

pub loop-number-preserved : goal.loop-number-preserved
loop-number-preserved g c =
    let inv = c.loop-number.invariant in
    let now = c.in_ok-print_picture.ensures in (
      inv.0 ++ now.0 ∷ [],
      omega (arith, length-append inv.0 (now.0 ∷ []), inv.1),
      next_picture inv.0 now.0 c.loop-number.number _ _ _ inv.1 inv.2 now.1,
    )
