use Rattle.std.proofs.Common.{◌≡◌, ℕ, ◌+◌, get_or, ap, ◌∙◌, arith}
use Rattle.vp_search.proofs.SumLanes.{four_are}
use Rattle.vp_search.proofs.sums.four_columns.Goals as goal

pub returns : goal.returns
returns c j h =
    let at : ℕ = c.args.at in
    let read : (x y : ℕ) → x ≡ y → get_or c.args.columns.now x 0 ≡ get_or c.args.columns.now y 0 = λ x y e. ap (λ (i : ℕ). get_or c.args.columns.now i 0) e in
    four_are (λ k. get_or c.args.columns.now (at + j + k) 0) _ _ _ _ _ _ _
    (c.load_sums-first.ensures j h ∙ read _ _ (let e : at + j ≡ at + j + 0 = omega arith in e))
    (c.load_sums-second.ensures j h ∙ read _ _ (let e : at + 1 + j ≡ at + j + 1 = omega arith in e))
    (c.load_sums-third.ensures j h ∙ read _ _ (let e : at + 2 + j ≡ at + j + 2 = omega arith in e))
    (c.load_sums-fourth.ensures j h ∙ read _ _ (let e : at + 3 + j ≡ at + j + 3 = omega arith in e))
    (c.plus.ensures j h) (c.plus-2.ensures j h) (c.plus-3.ensures j h)
