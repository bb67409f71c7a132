use Rattle.std.proofs.Common.{◌≡◌, ◌∙◌, ℕ, ◌+◌, ◌*◌, ◌<◌, ℤ, pos, List, get_or, sym, ap, subst, arith}
use Rattle.vp_recon.proofs.Words.{Block, IsBlock, passed16, residue, summed, byte_lane}
use Rattle.vp_recon.proofs.SumLemmas.{nothing_added, low_handed}
use Rattle.vp_recon.proofs.ResidueLemmas.{no_residue, nothing_of}
use Rattle.vp_recon.proofs.residue.with_residue.Goals as goal

pub returns-then-block-eq0 : goal.returns-then-block-eq0
returns-then-block-eq0 c =
    let b : Block = c.args.block.now in
    let is : IsBlock c.args.block.now = subst IsBlock c.block.view_is c.block.invariant in
    let none : c.args.block.now.end ≡ 0 = ap (λ (b : Block). b.end) (sym c.block.view_is) ∙ c.if-block-eq0.true in
    nothing_added c.args.prediction (residue b.levels c.args.factors.now.y_dc c.args.factors.now.y_ac)
    (nothing_of _ (no_residue b is c.args.factors.now.y_dc c.args.factors.now.y_ac none))
    (λ i below. let b = byte_lane c.args.prediction c.fits-prediction i below in omega arith)

pub returns : goal.returns
returns c r j rin jin =
    let i : ℕ = r * 4 + j in
    let below : r * 4 + j < 16 = omega arith in
    let p : ℕ = get_or c.args.prediction (r * 4 + j) 0 in
    let byte : get_or c.args.prediction (r * 4 + j) 0 < 256 = byte_lane c.args.prediction c.fits-prediction (r * 4 + j) below in
    let f = c.args.factors.now in
    let own : List ℤ = residue c.args.block.now.levels f.y_dc f.y_ac in
    c.summed.ensures i below
    ∙ ap (summed p) (passed16 c.own_residue-numbers.result i 8800 (omega arith) (c.own_residue-numbers.ensures.low i below))
    ∙ c.own_residue-numbers.ensures.value i below p (omega arith)
    ∙ ap (λ (n : ℕ). summed p (get_or own n (pos 0))) (let e : r * 4 + j ≡ 4 * r + j = omega arith in e)

pub summed-requires : goal.summed-requires
summed-requires c = (omega arith, (omega arith, (omega arith, low_handed 16 c.own_residue-numbers.result c.own_residue-numbers.ensures.low)))
