use Rattle.std.proofs.Common.{◌∙◌, ℕ, ◌+◌, ◌*◌, subst, sym, arith}
use Rattle.vp_inter.specs.Written.{IsBlockWritten}
use Rattle.vp_inter.proofs.WrittenLemmas.{is_set, within}
use Rattle.vp_inter.proofs.rows.put_two.Goals as goal

pub returns-then-this-ne0 : goal.returns-then-this-ne0
returns-then-this-ne0 g c before f done upper lower =
    let both = c.requires.tight (is_set g.row.TIGHT c.if-this-ne0.true) in
    let four = both.0 in
    let tight = both.1 in
    let i : ℕ = c.args.i in
    subst (λ (n : ℕ). IsBlockWritten n (2 * (i + 1)) before c.put_fours.new.pixels c.args.at c.args.stride f) (sym four)
    (subst (λ (s : ℕ). IsBlockWritten 4 (2 * (i + 1)) before c.put_fours.new.pixels c.args.at s f) (sym tight)
    (c.put_fours.ensures before f
    (subst (λ (s : ℕ). IsBlockWritten 4 (2 * i) before c.args.pixels.now c.args.at s f) tight
    (subst (λ (n : ℕ). IsBlockWritten n (2 * i) before c.args.pixels.now c.args.at c.args.stride f) four done))
    (λ k kin. c.first_fours.ensures.front k kin ∙ upper k (omega (arith, four)))
    (λ k kin. c.first_fours.ensures.back k kin ∙ lower k (omega (arith, four)))))

pub returns : goal.returns
returns g c before f done upper lower =
    subst (λ (h : ℕ). IsBlockWritten g.row.N h before c.put_eight-2.new.pixels c.args.at c.args.stride f) (omega arith)
    (c.put_eight-2.ensures before f
    (c.put_eight.ensures before f done (λ k kin. c.first_eight.ensures k (within g.row.N k c.requires.size kin) ∙ upper k kin))
    (λ k kin. c.last_eight.ensures k (within g.row.N k c.requires.size kin) ∙ lower k kin))
