use Rattle.std.proofs.Common.{◌≡◌, ℕ, ◌+◌, ◌*◌, get_or, ap, ◌∙◌, arith}
use Rattle.vp_search.proofs.SumLanes.{four_are}
use Rattle.vp_search.proofs.sums.four_pixels.Goals as goal

pub returns : goal.returns
returns c j h =
    let at : ℕ = c.args.at in let s : ℕ = c.args.step in
    let read : (x y : ℕ) → x ≡ y → get_or c.args.pixels.now x 0 ≡ get_or c.args.pixels.now y 0 = λ x y e. ap (λ (i : ℕ). get_or c.args.pixels.now i 0) e in
    four_are (λ r. get_or c.args.pixels.now (at + j + r * s) 0) _ _ _ _ _ _ _
    (c.load_bytes-first.ensures j h ∙ read _ _ (let e : at + j ≡ at + j + 0 * s = omega arith in e))
    (c.load_bytes-second.ensures j h ∙ read _ _ (let e : at + s + j ≡ at + j + 1 * s = omega arith in e))
    (c.load_bytes-third.ensures j h ∙ read _ _ (let e : at + 2 * s + j ≡ at + j + 2 * s = omega arith in e))
    (c.load_bytes-fourth.ensures j h ∙ read _ _ (let e : at + 3 * s + j ≡ at + j + 3 * s = omega arith in e))
    (c.plus.ensures j h) (c.plus-2.ensures j h) (c.plus-3.ensures j h)
