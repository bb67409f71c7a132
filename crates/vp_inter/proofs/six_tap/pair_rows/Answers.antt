use Rattle.std.proofs.Common.{◌≡◌, ◌∙◌, ℕ, ◌+◌, ◌*◌, ◌/◌, ◌%◌, ◌<◌, ap, get_or, arith}
use Rattle.vp_inter.proofs.six_tap.pair_rows.Goals as goal

pub returns : goal.returns
returns g c x t xin tin =
    let place : 2 * x + t ≡ (x / 8) * 16 + (2 * (x % 8) + t) = omega arith in
    let below : x / 8 < c.loop-i.i = omega arith in
    let small : 2 * (x % 8) + t < 16 = omega arith in
    let here : 8 * (x / 8) + (2 * (x % 8) + t) / 2 + 48 * ((2 * (x % 8) + t) % 2) ≡ x + 48 * t = omega arith in
    ap (λ (n : ℕ). get_or c.loop-i.pairs n 0) place
    ∙ c.loop-i.invariant.done (x / 8) (2 * (x % 8) + t) below small
    ∙ ap (λ (n : ℕ). get_or c.args.rows.now n 0) here
