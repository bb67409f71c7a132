use Rattle.std.proofs.Common.{◌≡◌, ◌∙◌, ℕ, ℤ, ◌+◌, ◌≤◌, pos, to_z, of_z, w16, set, get_or, refl, ap, arith, rules, true≢false, rules}
use Rattle.std.specs.Prelude.{unsigned_abs}
use Rattle.std.proofs.lemmas.Int.{ints}
use Rattle.std.proofs.lemmas.List.{get_or-set_same, get_or-set_other}
use Rattle.vp_tokens.specs.Block.{Block, no_tokens}
use Rattle.vp_quant.proofs.Places.{zeros_within}
use Rattle.vp_choose.specs.Coding.{IsEnded}
use Rattle.vp_choose.specs.Levels.{part_coefficients, firsts}
use Rattle.vp_choose.proofs.BlockLevels.{none_ended}
use Rattle.vp_choose.proofs.Listed.{is_mapped}
use Rattle.vp_choose.proofs.levels.blocks_with_y2.Goals as goal

read : (z : ℤ) → unsigned_abs z ≤ 2040 → to_z w16 (of_z w16 z) ≡ z
read z h = omega (arith, ints)

pub loop-k-init : goal.loop-k-init
loop-k-init c = record {
  size = refl;
  within = zeros_within 2040 16;
  first = λ f g fe ge i below. absurd (omega arith);
  luma = λ f g fe ge i below. absurd (omega arith);
  number = refl;
  ended = none_ended 25;
  no_dc = λ i below. absurd (omega arith);
}

pub loop-k-preserved : goal.loop-k-preserved
loop-k-preserved c =
    let here : IsEnded c.of_levels.result = record { tight = c.of_levels.ensures.tight; good = c.of_levels.ensures.block } in
    record {
      size = search rules;
      within = search (rules, read);
      first = search (rules, read);
      luma = search rules;
      number = search rules;
      ended = search rules;
      no_dc = search rules;
    }

module _ (c : goal.After-index-blocks-0) where
  here : get_or (set c.loop-k.blocks 0 c.quantised.result) 0 no_tokens ≡ c.quantised.result
  here = get_or-set_same c.loop-k.blocks 0 c.quantised.result no_tokens (omega (arith, c.loop-k.invariant.number))

  other : (k : ℕ) → get_or (set c.loop-k.blocks 0 c.quantised.result) (1 + k) no_tokens ≡ get_or c.loop-k.blocks (1 + k) no_tokens
  other k = get_or-set_other c.loop-k.blocks 0 (1 + k) c.quantised.result no_tokens (omega arith)

pub returns-clause-luma : goal.returns-clause-luma
unfolding firsts
returns-clause-luma c f g fe ge t have =
    let old = c.loop-k.invariant in
    let are : c.loop-k.firsts ≡ firsts (part_coefficients 4 f g) =
    is_mapped (pos 0) 16 (λ k. get_or (part_coefficients 4 f g k) 0 (pos 0)) c.loop-k.firsts old.size (λ i below. old.first f g fe ge i (omega arith)) in
    record {
      y2 = ap (λ (b : Block). b.levels) (have 0 (omega arith) ∙ here c) ∙ rw (c.quantised.ensures.levels, c.fwht_short.ensures.value, are);
      luma = λ k below. ap (λ (b : Block). b.levels) (have (1 + k) (omega arith) ∙ other c k) ∙ old.luma f g fe ge k (omega arith);
    }

pub returns-clause-writable : goal.returns-clause-writable
returns-clause-writable c =
    let old = c.loop-k.invariant in
    record {
      number = search rules;
      ended = search rules;
      no_dc = λ _ k below. rw (other c k) (old.no_dc k (omega arith));
      no_y2 = λ e. absurd (true≢false e);
    }
