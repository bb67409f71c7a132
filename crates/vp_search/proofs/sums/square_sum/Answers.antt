use Rattle.std.proofs.Common.{◌≡◌, ℕ, ◌+◌, ◌<◌, ◌∙◌, get_or, ap, arith}
use Rattle.vp_search.specs.Bounds.{column_sum, square_sum}
use Rattle.vp_search.proofs.SumLanes.{row_is_square}
use Rattle.vp_search.proofs.sums.square_sum.Goals as goal

pub returns : goal.returns
returns c =
    let at : ℕ = c.args.at in
    let columns = c.store_sums.new.s in
    let all : (k : ℕ) → k < 8 → get_or columns k 0 ≡ column_sum c.args.block.now (at + k) 16 =
    λ k h. (let e : k ≡ 0 + k = omega arith in ap (λ (i : ℕ). get_or columns i 0) e) ∙ c.store_sums.ensures.here k h ∙ c.column_sums.ensures k h in
    let last : at + 0 ≡ at = omega arith in
    c.store_sums-2.ensures.here 0 (omega arith) ∙ c.row_sums.ensures 0 (omega arith)
    ∙ row_is_square columns c.args.block.now at 16 8 0 all (omega arith)
    ∙ ap (λ (k : ℕ). square_sum c.args.block.now k 16) last
