use Rattle.std.proofs.Common.{◌≡◌, ◌*◌, ◌≤◌, ◌^◌, pos, ap, ◌∙◌, sym, subst, set, slice_index_or, unsigned_abs, arith, w64, max, to_z, of_z, FitsSigned}
use Rattle.std.proofs.lemmas.Int.{to_z-of_z}
use Rattle.vp_quant.specs.Quant.{dequantised_prefix, coefficient, dequantised}
use Rattle.vp_quant.proofs.Places.{placed_more, placed_none, placed_all, dequantised_at, dequantised_within, zeros_within, set_within}
use Rattle.vp_quant.proofs.block.dequant.Goals as goal
use Rattle.vp_tables.specs.Tables.{zigzag}

pub loop-position-init : goal.loop-position-init
loop-position-init c = record { placed = sym (placed_none c.args.levels.now c.args.dc c.args.ac); within = zeros_within (2 ^ 31) 16 }

pub loop-position-preserved : goal.loop-position-preserved
loop-position-preserved c =
    let f : FitsSigned w64 c.coefficient.result = record { sfits = c.coefficient.type_inv } in
    let same : to_z w64 (of_z w64 c.coefficient.result) ≡ c.coefficient.result = to_z-of_z w64 c.coefficient.result f in
    record {
      placed = ap (λ v. set c.loop-position.block c.zigzag.result v) (same ∙ c.coefficient.ensures.value)
          ∙ ap (λ k. set c.loop-position.block k (coefficient c.args.levels.now c.args.dc c.args.ac c.loop-position.position)) c.zigzag.ensures.value
          ∙ ap (λ xs. set xs (zigzag c.loop-position.position) (coefficient c.args.levels.now c.args.dc c.args.ac c.loop-position.position)) c.loop-position.invariant.placed
          ∙ placed_more c.args.levels.now c.args.dc c.args.ac c.loop-position.position c.loop-position-test.true;
      within = set_within (2 ^ 31) c.loop-position.block c.zigzag.result _ c.loop-position.invariant.within (subst (λ v. unsigned_abs v ≤ 2 ^ 31) (sym same) c.coefficient.ensures.within);
    }

pub returns : goal.returns
returns c =
    let last : c.loop-position.position ≡ 16 = omega (arith, c.loop-position-test.false, c.loop-position.auto.position-end) in
    let whole : c.loop-position.block ≡ dequantised c.args.levels.now c.args.dc c.args.ac =
    c.loop-position.invariant.placed ∙ ap (λ n. dequantised_prefix c.args.levels.now c.args.dc c.args.ac n) last ∙ placed_all c.args.levels.now c.args.dc c.args.ac in
    record {
      value = whole;
      within = c.loop-position.invariant.within;
      places = λ i l. ap (λ v. slice_index_or v (zigzag i) (pos 0)) whole ∙ dequantised_at c.args.levels.now c.args.dc c.args.ac i l;
      small = λ m h i. subst (λ v. unsigned_abs (slice_index_or v i (pos 0)) ≤ m * max c.args.dc c.args.ac) (sym whole) (dequantised_within c.args.levels.now c.args.dc c.args.ac m h i);
    }
