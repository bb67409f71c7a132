use Rattle.std.proofs.Common.{◌≡◌, ◌∙◌, ◌+◌, ℕ, ap, get_or, arith, lit<}
use Rattle.vp_inter.proofs.WrittenLemmas.{none_written}
use Rattle.vp_inter.proofs.rows.put_sixteen.Goals as goal

pub returns : goal.returns
returns c f value =
    let old = c.args.pixels.now in
    let one = c.put_row.ensures old f (none_written 4 old c.args.at c.args.stride f) (λ k kin. c.first_four.ensures k kin ∙ c.first_eight.ensures k (omega arith) ∙ ap (λ (i : ℕ). get_or c.args.block i 0) (let e : k ≡ 0 + k = omega arith in e) ∙ value 0 k (lit< tt) kin) in
    let two = c.put_row-2.ensures old f one (λ k kin. c.last_four.ensures k kin ∙ c.first_eight-2.ensures (4 + k) (omega arith) ∙ value 1 k (lit< tt) kin) in
    let three = c.put_row-3.ensures old f two (λ k kin. c.first_four-2.ensures k kin ∙ c.last_eight.ensures k (omega arith) ∙ value 2 k (lit< tt) kin) in
    c.put_row-4.ensures old f three (λ k kin. c.last_four-2.ensures k kin ∙ c.last_eight-2.ensures (4 + k) (omega arith) ∙ ap (λ (i : ℕ). get_or c.args.block i 0) (let e : 8 + (4 + k) ≡ 12 + k = omega arith in e) ∙ value 3 k (lit< tt) kin)
