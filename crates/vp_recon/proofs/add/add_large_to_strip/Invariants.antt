-- The pairs before i have been added.
use Rattle.vp_recon.specs.Parts.{large_residue_in}
use Rattle.vp_recon.proofs.StripLemmas.{PairsTo}
use Rattle.vp_recon.proofs.add.add_large_to_strip.Given as goal

abbrev pub invariant-loop-i : goal.invariant-loop-i
invariant-loop-i g l = PairsTo g.row.ACROSS (large_residue_in l.inputs) l.k l.initial.pixels l.at l.stride l.i l.pixels
