use Rattle.std.proofs.Common.{◌≡◌, ◌+◌, ◌*◌, ℕ, List, ℤ, sym, subst, arith}
use Rattle.vp_recon.proofs.Words.{IsAdded, residue_in}
use Rattle.vp_recon.proofs.SumLemmas.{rows_handed}
use Rattle.vp_recon.proofs.add.add_dcs_to_strip.Goals as goal

pub add_numbers_to_rows-requires : goal.add_numbers_to_rows-requires
add_numbers_to_rows-requires g c = (omega arith, (omega arith, (omega (arith, c.requires.room, c.if-this-eq4.true), (rows_handed 16 _ _ _ _ _ c.dc_row_of_four-row.ensures).low)))

pub returns-then-this-eq4 : goal.returns-then-this-eq4
returns-then-this-eq4 g c =
    let own : ℕ → List ℤ = λ i. residue_in c.args.inputs.now (c.args.k + i) in
    subst (λ (a : ℕ). IsAdded (4 * a) c.args.pixels.now c.add_numbers_to_rows.new.pixels c.args.at c.args.stride own) (sym c.if-this-eq4.true) (c.add_numbers_to_rows.ensures own (rows_handed 16 _ _ _ _ own c.dc_row_of_four-row.ensures))

pub add_numbers_to_rows-requires-else-this-eq4 : goal.add_numbers_to_rows-requires-else-this-eq4
add_numbers_to_rows-requires-else-this-eq4 g c =
    (omega arith, (omega arith, (omega (arith, c.requires.room, c.requires.across, c.if-this-eq4.false), (rows_handed 8 _ _ _ _ _ c.dc_row_of_two-row.ensures).low)))

pub returns-else-this-eq4 : goal.returns-else-this-eq4
returns-else-this-eq4 g c =
    let own : ℕ → List ℤ = λ i. residue_in c.args.inputs.now (c.args.k + i) in
    let two : 2 ≡ g.row.ACROSS = omega (arith, c.requires.across, c.if-this-eq4.false) in
    subst (λ (a : ℕ). IsAdded (4 * a) c.args.pixels.now c.add_numbers_to_rows-else-this-eq4.new.pixels c.args.at c.args.stride own) two (c.add_numbers_to_rows-else-this-eq4.ensures own (rows_handed 8 _ _ _ _ own c.dc_row_of_two-row.ensures))
