use Rattle.std.proofs.Common.{◌≡◌, ◌≤◌, ◌∙◌, ℕ, ℤ, pos, ◌+ℤ◌, ◌-ℤ◌, ◌≤ℤ◌, ◌⊎◌, List, length, get_or, to_z, of_z, w32, ap, sym, subst, arith}
use Rattle.std.specs.Prelude.{unsigned_abs}
use Rattle.std.proofs.lemmas.Int.{ints}
use Rattle.vp_search.specs.declared.vector.QuarterVector.{QuarterVector}
use Rattle.vp_search.specs.FirstLeast.{IsFirstLeast}
use Rattle.vp_search.specs.Refined.{candidates_around, neighbour}
use Rattle.vp_search.proofs.RefinedLemmas.{listed, row_beside}
use Rattle.vp_search.proofs.ColumnLemmas.{best_within, columns_beside}
use Rattle.vp_search.proofs.refinement.best_of.Goals as goal

-- the vector that is chosen by nine costs
chosen : (centre : QuarterVector) (d : ℤ) (vectors : List QuarterVector) (costs : List ℕ) (best : ℕ) → (pos 1 ≤ℤ d) × (d ≤ℤ pos 2) → vectors ≡ candidates_around centre (to_z w32 (of_z w32 d))
    → length costs ≡ 9 → IsFirstLeast (length costs) (λ k. get_or costs k 0) best
    → IsFirstLeast 9 (λ k. get_or costs k 0) best × (get_or vectors best (record { row = pos 0; column = pos 0 }) ≡ neighbour centre d best)
chosen centre d vectors costs best small is nine least =
    let first = subst (λ (n : ℕ). IsFirstLeast n (λ k. get_or costs k 0) best) nine least in
    (first, listed centre (to_z w32 (of_z w32 d)) vectors _ best is first.within ∙ ap (λ (z : ℤ). neighbour centre z best) (let e : to_z w32 (of_z w32 d) ≡ d = omega (arith, ints) in e))

pub returns-clause-best : goal.returns-clause-best
returns-clause-best c cost known within =
    let best : ℕ = c.first_least-best.result in
    let is = chosen c.args.centre.vector c.args.distance c.around-vectors.result c.args.costs.now best c.requires.distance c.around-vectors.ensures c.told-costs c.first_least-best.ensures in
    let b = best_within cost c.args.centre c.args.distance c.args.costs.now best known within is.0 in
    (record { number = best; first = b.0; is = is.1 }, b.1 ∙ sym (ap cost is.1))

pub returns-clause-row : goal.returns-clause-row
returns-clause-row c =
    let best : ℕ = c.first_least-best.result in
    let is = chosen c.args.centre.vector c.args.distance c.around-vectors.result c.args.costs.now best c.requires.distance c.around-vectors.ensures c.told-costs c.first_least-best.ensures in
    subst (λ (v : QuarterVector). unsigned_abs (v.row -ℤ c.args.centre.vector.row) ≤ unsigned_abs c.args.distance) (sym is.1) (row_beside c.args.centre.vector c.args.distance best is.0.within)

pub returns-clause-column : goal.returns-clause-column
returns-clause-column c =
    let best : ℕ = c.first_least-best.result in
    let is = chosen c.args.centre.vector c.args.distance c.around-vectors.result c.args.costs.now best c.requires.distance c.around-vectors.ensures c.told-costs c.first_least-best.ensures in
    subst (λ (v : QuarterVector). (v.column ≡ c.args.centre.vector.column -ℤ c.args.distance) ⊎ (v.column ≡ c.args.centre.vector.column) ⊎ (v.column ≡ c.args.centre.vector.column +ℤ c.args.distance))
    (sym is.1) (columns_beside c.args.centre.vector c.args.distance best is.0.within)
