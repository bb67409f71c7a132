use Rattle.std.proofs.Common.{◌≡◌, ◌∙◌, ◌+◌, ℕ, subst, sym, arith, inl, inr}
use Rattle.vp_inter.specs.Written.{IsBlockWritten}
use Rattle.vp_inter.proofs.rows.put_eight.Goals as goal

pub returns-then-this-eq4 : goal.returns-then-this-eq4
returns-then-this-eq4 g c before f done value =
    let four = c.if-this-eq4.true in
    subst (λ (n : ℕ). IsBlockWritten n (c.args.r + 1) before c.put_row.new.pixels c.args.at c.args.stride f) (sym four)
    (c.put_row.ensures before f (subst (λ (n : ℕ). IsBlockWritten n c.args.r before c.args.pixels.now c.args.at c.args.stride f) four done)
    (λ k kin. c.first_four.ensures k kin ∙ value k (omega (arith, four))))

pub returns-else-this-eq4 : goal.returns-else-this-eq4
returns-else-this-eq4 g c before f done value =
    let eight : g.row.N ≡ 8 = elim c.requires.size [ inl four ↦ absurd (c.if-this-eq4.false four) | inr eight ↦ eight ] in
    subst (λ (n : ℕ). IsBlockWritten n (c.args.r + 1) before c.put_row-else-this-eq4.new.pixels c.args.at c.args.stride f) (sym eight)
    (c.put_row-else-this-eq4.ensures before f (subst (λ (n : ℕ). IsBlockWritten n c.args.r before c.args.pixels.now c.args.at c.args.stride f) eight done)
    (λ k kin. value k (omega (arith, eight))))
