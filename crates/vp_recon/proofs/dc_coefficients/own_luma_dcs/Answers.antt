use Rattle.std.proofs.Common.{◌≡◌, ◌∙◌, ◌≤◌, ◌<◌, ◌+◌, ◌*ℤ◌, ℕ, ℤ, pos, List, get_or, unsigned_abs, ap, subst, sym, arith}
use Rattle.vp_recon.proofs.Words.{Factors, block_of, passed16, AreDcs, own_dc}
use Rattle.vp_recon.proofs.SumLemmas.{by_halves}
use Rattle.vp_recon.proofs.dc_coefficients.own_luma_dcs.Goals as goal

-- what is joined
number : (c : goal.After-joined) (P : ℕ → ℤ → Type 0) → ((j : ℕ) → j < 8 → P j (get_or c.in-Some.upper j (pos 0))) → ((j : ℕ) → j < 8 → P (8 + j) (get_or c.in-Some-eight_dcs.lower j (pos 0)))
    → (k : ℕ) → k < 16 → P k (get_or c.joined.result k (pos 0))
number c P upper lower =
    let dc : ℕ = c.factors.inside.raw.y_dc in
    let ready = c.factors.invariant.y_dc in
    by_halves (λ k. P k (get_or c.joined.result k (pos 0)))
    (λ j h. subst (P j) (sym (c.joined.ensures.upper j h ∙ passed16 c.in-Some.upper j 2200 (omega arith) (c.eight_dcs.ensures.small c.in-Some.upper dc c.in-Some.is ready j h))) (upper j h))
    (λ j h. subst (P (8 + j)) (sym (c.joined.ensures.lower j h ∙ passed16 c.in-Some-eight_dcs.lower j 2200 (omega arith)
    (c.eight_dcs-2.ensures.small c.in-Some-eight_dcs.lower dc c.in-Some-eight_dcs.is ready j h))) (lower j h))

pub returns-clause-value : goal.returns-clause-value
returns-clause-value c dcs is =
    let dc : ℕ = c.factors.inside.raw.y_dc in
    let t = c.args.tokens.now in
    let ready = c.factors.invariant.y_dc in
    let joined : c.joined.result ≡ dcs = cc in
    subst (λ (zs : List ℤ). AreDcs 16 zs (own_dc t 1 c.args.factors.now.y_dc)) joined
    (subst (λ (f : Factors). AreDcs 16 c.joined.result (own_dc t 1 f.y_dc)) c.factors.view_is
    (number c (λ k z. z ≡ own_dc t 1 dc k) (c.eight_dcs.ensures.value c.in-Some.upper dc c.in-Some.is ready)
    (λ j h. c.eight_dcs-2.ensures.value c.in-Some-eight_dcs.lower dc c.in-Some-eight_dcs.is ready j h
    ∙ ap (λ (n : ℕ). get_or (block_of t n).levels 0 (pos 0) *ℤ pos dc) (let e : 9 + j ≡ 1 + (8 + j) = omega arith in e))))

pub returns-clause-small : goal.returns-clause-small
returns-clause-small c dcs is =
    let dc : ℕ = c.factors.inside.raw.y_dc in
    let ready = c.factors.invariant.y_dc in
    let joined : c.joined.result ≡ dcs = cc in
    subst (λ (zs : List ℤ). (k : ℕ) → k < 16 → unsigned_abs (get_or zs k (pos 0)) ≤ 2200) joined
    (number c (λ k z. unsigned_abs z ≤ 2200) (c.eight_dcs.ensures.small c.in-Some.upper dc c.in-Some.is ready)
    (c.eight_dcs-2.ensures.small c.in-Some-eight_dcs.lower dc c.in-Some-eight_dcs.is ready))
