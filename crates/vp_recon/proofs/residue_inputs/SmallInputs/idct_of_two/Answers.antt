use Rattle.std.proofs.Common.{◌≡◌, ◌∙◌, ◌+◌, ℕ, ap, subst, arith}
use Rattle.vp_recon.proofs.Words.{idct-within, Block, block_of, idct, residue_in, AreRows, Four}
use Rattle.vp_recon.proofs.SumLemmas.{equal_sums, rows_beside}
use Rattle.vp_recon.proofs.ResidueLemmas.{AreTwo, are_two}
use Rattle.vp_recon.proofs.residue_inputs.SmallInputs.idct_of_two.Goals as goal

next : (a b : ℕ) → a + b + 1 ≡ a + (b + 1)
next a b = omega arith

pub idct_interleaved-requires : goal.idct_interleaved-requires
idct_interleaved-requires c =
    let r = c.args.self.now in
    let to = c.coefficients_of_two.ensures in
    let both : AreTwo c.args.self.now c.args.k c.in-Some.rows =
    are_two r c.args.k c.in-Some.rows c.behind-self.inside.levels c.behind-self-2.inside.levels c.requires.subblocks
    (ap (λ (b : Block). b.levels) (c.behind-self.view_is ∙ c.block_of.ensures)) (ap (λ (b : Block). b.levels) (c.behind-self-2.view_is ∙ c.block_of-2.ensures ∙ ap (block_of r.tokens.now) (next r.first c.args.k)))
    (to.left c.in-Some.rows r.ac 2200 c.in-Some.is c.requires.factor) (to.right c.in-Some.rows r.ac 2200 c.in-Some.is c.requires.factor)
    (to.small c.in-Some.rows r.ac 2200 c.in-Some.is c.requires.factor) in
    record { even = both.even_small; odd = both.odd_small }

pub returns : goal.returns
returns c v is =
    let r = c.args.self.now in
    let k : ℕ = c.args.k in
    let with_rows = c.coefficients_of_two.ensures in
    let both : AreTwo c.args.self.now c.args.k c.in-Some.rows =
    are_two r c.args.k c.in-Some.rows c.behind-self.inside.levels c.behind-self-2.inside.levels c.requires.subblocks
    (ap (λ (b : Block). b.levels) (c.behind-self.view_is ∙ c.block_of.ensures)) (ap (λ (b : Block). b.levels) (c.behind-self-2.view_is ∙ c.block_of-2.ensures ∙ ap (block_of r.tokens.now) (next r.first c.args.k)))
    (with_rows.left c.in-Some.rows r.ac 2200 c.in-Some.is c.requires.factor) (with_rows.right c.in-Some.rows r.ac 2200 c.in-Some.is c.requires.factor)
    (with_rows.small c.in-Some.rows r.ac 2200 c.in-Some.is c.requires.factor) in
    let to = c.idct_interleaved.ensures in
    let u = c.idct_interleaved.result in
    let same : c.idct_interleaved.result ≡ v = cc in
    subst (λ (w : Four). AreRows 8 w.0 w.1 w.2 w.3 (λ i. residue_in r (c.args.k + i))) same
    (rows_beside (λ i. residue_in r (c.args.k + i)) _ _ u.0 u.1 u.2 u.3 (λ j h. idct-within 2200 _ both.even_small j) (λ j h. idct-within 2200 _ both.odd_small j)
    (equal_sums _ _ (ap idct both.even ∙ ap (residue_in r) (let e : k ≡ k + 0 = omega arith in e))) (equal_sums _ _ (ap idct both.odd)) to.top to.upper to.lower to.bottom)
