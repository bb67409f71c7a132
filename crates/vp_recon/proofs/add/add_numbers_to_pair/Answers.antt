use Rattle.std.proofs.Common.{[], ◌∷◌, get_or, refl, arith}
use Rattle.vp_recon.proofs.SumLemmas.{rows_handed, rows_beside, equal_sums}
use Rattle.vp_recon.proofs.add.add_numbers_to_pair.Goals as goal

pub add_numbers_to_rows-requires : goal.add_numbers_to_rows-requires
add_numbers_to_rows-requires c =
    let to = c.side_by_side.ensures in
    let rows = rows_beside (λ i. get_or (c.args.left ∷ c.args.right ∷ []) i []) c.args.left c.args.right _ _ _ _ c.requires.left c.requires.right (equal_sums _ _ refl) (equal_sums _ _ refl) to.top to.upper to.lower to.bottom in
    (omega arith, (omega arith, (omega arith, (rows_handed 8 _ _ _ _ _ rows).low)))

pub returns : goal.returns
returns c own left right =
    let to = c.side_by_side.ensures in
    c.add_numbers_to_rows.ensures own (rows_handed 8 _ _ _ _ own (rows_beside own c.args.left c.args.right _ _ _ _ c.requires.left c.requires.right left right to.top to.upper to.lower to.bottom))
