use Rattle.std.proofs.Common.{◌≡◌, ◌∙◌, ℕ, ◌+◌, ◌*◌, ◌/◌, ◌%◌, ◌<◌, List, ap, sym, subst, get_or, arith}
use Rattle.vp_inter.proofs.panel.pair_of.Goals as goal

pub shuffle-requires : goal.shuffle-requires
shuffle-requires c k kin =
    let place : 2 * (k / 2) + k % 2 ≡ k = omega arith in
    let at : get_or c.args.indices k 0 ≡ 8 * (k % 2) + k / 2 =
    ap (λ (i : ℕ). get_or c.args.indices i 0) (sym place) ∙ c.requires.indices (k / 2) (k % 2) (omega arith) (omega arith) in
    subst (λ (n : ℕ). n < 16) (sym at) (omega arith)

pub returns : goal.returns
returns c pixel from count holds inside j t jin tin =
    let chain : List ℕ = c.args.chain.now in
    let e : ℕ = c.args.e in
    c.shuffle.ensures (2 * j + t) (omega arith)
    ∙ ap (λ (i : ℕ). get_or c.load.result i 0) (c.requires.indices j t jin tin)
    ∙ c.load.ensures (8 * t + j) (omega arith)
    ∙ ap (λ (i : ℕ). get_or chain i 0) (let place : 8 * e + (8 * t + j) ≡ (e + t) * 8 + j = omega arith in place)
    ∙ holds (e + t) j (omega arith) jin
    ∙ ap (λ (r : ℕ). pixel r j) (let row : 3 * (e + t) + from ≡ 3 * e + from + 3 * t = omega arith in row)
