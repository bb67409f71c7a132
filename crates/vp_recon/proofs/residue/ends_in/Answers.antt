use Rattle.std.proofs.Common.{◌≡◌, ◌∙◌, ◌+◌, ℕ, ap, subst, arith, inl, inr}
use Rattle.vp_recon.proofs.Words.{Block, IsBlock, block_of, cases_lt, le_or_l, le_or_r}
use Rattle.vp_recon.proofs.residue.ends_in.Goals as goal

pub loop-i-preserved : goal.loop-i-preserved
loop-i-preserved c j below =
    let l = le_or_l c.loop-i.ends c.behind-tokens.inside.end in
    let r = le_or_r c.loop-i.ends c.behind-tokens.inside.end in
    elim (cases_lt j c.loop-i.i) [
      | inl early ↦ let before = c.loop-i.invariant j early in (before.0, omega (arith, before.1, l))
      | inr late ↦
          let last : c.loop-i.i ≡ j = omega arith in
          let is : IsBlock c.block_of.result.now = subst IsBlock c.behind-tokens.view_is c.behind-tokens.invariant in
          let here : c.block_of.result.now ≡ block_of c.args.tokens.now (c.args.first + j) =
          c.block_of.ensures ∙ ap (λ (i : ℕ). block_of c.args.tokens.now (c.args.first + i)) last in
          let count : c.behind-tokens.inside.end ≡ (block_of c.args.tokens.now (c.args.first + j)).end = ap (λ (b : Block). b.end) (c.behind-tokens.view_is ∙ here) in
          (subst IsBlock here is, omega (arith, count, r))
    ]
