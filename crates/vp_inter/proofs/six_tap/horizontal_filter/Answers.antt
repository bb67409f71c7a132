use Rattle.std.proofs.Common.{◌≡◌, ◌∙◌, ℕ, pos, ◌+◌, ◌<◌, ◌+ℤ◌, ◌++◌, List, ap, sym, subst, get_or, arith, rules, lit<}
use Rattle.std.proofs.lemmas.Int.{ints}
use Rattle.vp_inter.specs.Inter.{nearest}
use Rattle.vp_inter.proofs.LongLanes.{by_sixteen, fore}
use Rattle.vp_inter.proofs.six_tap.horizontal_filter.Goals as goal

pub invariant_of-result : goal.invariant_of-result
invariant_of-result c =
    let s = c.span_of-start in
    let both : List ℕ = s.result.indices ++ s.result.indices in
    let at : (k : ℕ) → k < 16 → get_or both k 0 < 16 = λ k h. subst (λ (n : ℕ). n < 16) (sym (fore 16 s.result.indices s.result.indices (search rules) k h)) (s.ensures.lanes k h) in
    let three : (k : ℕ) → k + 2 < 16 → (get_or both k 0 < 16) × (get_or both (k + 1) 0 < 16) × (get_or both (k + 2) 0 < 16) = λ k h. (at k (omega arith), at (k + 1) (omega arith), at (k + 2) h) in
    record { lanes = by_sixteen _ (three 0 (lit< tt)) (three 3 (lit< tt)) (three 1 (lit< tt)) (three 4 (lit< tt)) (three 2 (lit< tt)) (three 5 (lit< tt)) (three 3 (lit< tt)) (three 6 (lit< tt)) (three 4 (lit< tt)) (three 7 (lit< tt)) (three 5 (lit< tt)) (three 8 (lit< tt)) (three 6 (lit< tt)) (three 9 (lit< tt)) (three 7 (lit< tt)) (three 10 (lit< tt)) }

pub returns-clause-selects : goal.returns-clause-selects
returns-clause-selects c =
    let q = c.args.patch.now in
    let near = q.near in
    let s = c.span_of-start in
    let both : List ℕ = s.result.indices ++ s.result.indices in
    let column : ℕ → ℕ = λ (k : ℕ). nearest q.width (q.left +ℤ pos (c.args.from + k)) in
    let at : (k : ℕ) → k < 16 → s.result.start + get_or both k 0 ≡ column k =
    λ k h. ap (λ (n : ℕ). s.result.start + n) (fore 16 s.result.indices s.result.indices (search rules) k h) ∙ s.ensures.indices k h ∙ ap (nearest q.width) (omega (arith, ints)) in
    let three : (k : ℕ) → k + 2 < 16 → (s.result.start + get_or both k 0 ≡ column k) × (s.result.start + get_or both (k + 1) 0 ≡ column (k + 1)) × (s.result.start + get_or both (k + 2) 0 ≡ column (k + 2)) =
    λ k h. (at k (omega arith), at (k + 1) (omega arith), at (k + 2) h) in
    by_sixteen _ (three 0 (lit< tt)) (three 3 (lit< tt)) (three 1 (lit< tt)) (three 4 (lit< tt)) (three 2 (lit< tt)) (three 5 (lit< tt)) (three 3 (lit< tt)) (three 6 (lit< tt)) (three 4 (lit< tt)) (three 7 (lit< tt)) (three 5 (lit< tt)) (three 8 (lit< tt)) (three 6 (lit< tt)) (three 9 (lit< tt)) (three 7 (lit< tt)) (three 10 (lit< tt))
