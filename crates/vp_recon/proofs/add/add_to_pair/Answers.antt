use Rattle.std.proofs.Common.{◌≡◌, ◌∙◌, ◌+◌, ◌<◌, ℕ, pos, length, get_or, to_z, of_z, w16, refl, sym, ap, arith}
use Rattle.vp_recon.specs.Parts.{residue_in}
use Rattle.vp_recon.proofs.StripLemmas.{strip_alone}
use Rattle.vp_recon.proofs.ResidueLemmas.{two_nothing}
use Rattle.vp_recon.proofs.SumLemmas.{short_coded, rows_handed}
use Rattle.vp_recon.proofs.add.add_to_pair.Goals as goal

pub returns-then-inputs-k-eq0-2 : goal.returns-then-inputs-k-eq0-2
returns-then-inputs-k-eq0-2 c =
    let r = c.args.inputs.now in
    let k : ℕ = c.args.k in
    let has = c.requires.subblocks.0 in
    let zero : (n : ℕ) → n < length r.dcs.now → of_z w16 (get_or r.dcs.now n (pos 0)) ≡ 0 → get_or r.dcs.now n (pos 0) ≡ pos 0 =
    λ n below e. sym (short_coded (get_or r.dcs.now n (pos 0)) (let s = r.small n below in omega arith)) ∙ ap (to_z w16) e in
    record {
      value = λ p x y lies. strip_alone p x y 8 c.args.pixels.now c.args.at c.args.stride (λ i. residue_in r (c.args.k + i)) lies
          (two_nothing r k c.ends_in.result c.ends_in.ensures c.if-ends_in-le1.true (zero k (omega arith) c.if-inputs-k-eq0.true) (zero (k + 1) (omega arith) c.if-inputs-k-eq0-2.true))
          (λ i. let b = (c.type_inv.pixels i).fits in omega (arith, b));
      len = refl;
    }

pub add_numbers_to_rows-requires : goal.add_numbers_to_rows-requires
add_numbers_to_rows-requires c = (omega arith, (omega arith, (omega arith, (rows_handed 8 _ _ _ _ _ (c.idct_of_two.ensures c.in-Some.rows c.in-Some.is)).low)))

pub returns : goal.returns
returns c = c.add_numbers_to_rows.ensures _ (rows_handed 8 _ _ _ _ _ (c.idct_of_two.ensures c.in-Some.rows c.in-Some.is))
