use Rattle.std.proofs.Common.{◌≡◌, ℕ, ◌<◌, ◌++◌, max, get_or, lit<, sym, subst, arith}
use Rattle.std.proofs.lemmas.List.{get_or_append_left}
use Rattle.vp_quant.proofs.Sixteen.{below_eight, below_sixteen}
use Rattle.vp_quant.proofs.magnitudes.are_below.Goals as goal

low : {m b : ℕ} (x y : ℕ) → m ≡ max x y → m < b → x < b
low x y e h = omega arith

high : {m b : ℕ} (x y : ℕ) → m ≡ max x y → m < b → y < b
high x y e h = omega arith

both : {m b : ℕ} (x y : ℕ) → m ≡ max x y → x < b → y < b → m < b
both x y e h g = omega arith

pub returns-clause-below : goal.returns-clause-below
returns-clause-below c full j h =
    let e = c.larger.ensures in
    let f = c.eight_are_below.ensures.below full in
    let v : ℕ → ℕ = λ k. get_or (c.args.v ++ c.args.v) k 0 in
    subst (λ n. n < c.args.bound) (get_or_append_left c.args.v c.args.v 0 j (subst (λ n. j < n) (sym c.fits-v.0) h))
    (below_sixteen (λ k. get_or (c.args.v ++ c.args.v) k 0 < c.args.bound)
    (low (v 0) (v 8) (e 0 (lit< tt)) (f 0 (lit< tt))) (low (v 1) (v 9) (e 1 (lit< tt)) (f 1 (lit< tt))) (low (v 2) (v 10) (e 2 (lit< tt)) (f 2 (lit< tt))) (low (v 3) (v 11) (e 3 (lit< tt)) (f 3 (lit< tt)))
    (low (v 4) (v 12) (e 4 (lit< tt)) (f 4 (lit< tt))) (low (v 5) (v 13) (e 5 (lit< tt)) (f 5 (lit< tt))) (low (v 6) (v 14) (e 6 (lit< tt)) (f 6 (lit< tt))) (low (v 7) (v 15) (e 7 (lit< tt)) (f 7 (lit< tt)))
    (high (v 0) (v 8) (e 0 (lit< tt)) (f 0 (lit< tt))) (high (v 1) (v 9) (e 1 (lit< tt)) (f 1 (lit< tt))) (high (v 2) (v 10) (e 2 (lit< tt)) (f 2 (lit< tt))) (high (v 3) (v 11) (e 3 (lit< tt)) (f 3 (lit< tt)))
    (high (v 4) (v 12) (e 4 (lit< tt)) (f 4 (lit< tt))) (high (v 5) (v 13) (e 5 (lit< tt)) (f 5 (lit< tt))) (high (v 6) (v 14) (e 6 (lit< tt)) (f 6 (lit< tt))) (high (v 7) (v 15) (e 7 (lit< tt)) (f 7 (lit< tt))) j h)

pub returns-clause-all : goal.returns-clause-all
returns-clause-all c all =
    let v : ℕ → ℕ = λ k. get_or (c.args.v ++ c.args.v) k 0 in
    let l : (k : ℕ) → k < 16 → v k < c.args.bound = λ k h. subst (λ n. n < c.args.bound) (sym (get_or_append_left c.args.v c.args.v 0 k (subst (λ n. k < n) (sym c.fits-v.0) h))) (all k h) in
    let e = c.larger.ensures in
    c.eight_are_below.ensures.all (below_eight (λ j. get_or c.larger.result j 0 < c.args.bound)
    (both (v 0) (v 8) (e 0 (lit< tt)) (l 0 (lit< tt)) (l 8 (lit< tt))) (both (v 1) (v 9) (e 1 (lit< tt)) (l 1 (lit< tt)) (l 9 (lit< tt))) (both (v 2) (v 10) (e 2 (lit< tt)) (l 2 (lit< tt)) (l 10 (lit< tt)))
    (both (v 3) (v 11) (e 3 (lit< tt)) (l 3 (lit< tt)) (l 11 (lit< tt))) (both (v 4) (v 12) (e 4 (lit< tt)) (l 4 (lit< tt)) (l 12 (lit< tt))) (both (v 5) (v 13) (e 5 (lit< tt)) (l 5 (lit< tt)) (l 13 (lit< tt)))
    (both (v 6) (v 14) (e 6 (lit< tt)) (l 6 (lit< tt)) (l 14 (lit< tt))) (both (v 7) (v 15) (e 7 (lit< tt)) (l 7 (lit< tt)) (l 15 (lit< tt))))
