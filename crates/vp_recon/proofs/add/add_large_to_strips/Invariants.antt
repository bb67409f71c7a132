-- The strips before i have been added.
use Rattle.std.proofs.Common.{◌≡◌, ◌+◌, ◌*◌}
use Rattle.vp_recon.specs.Parts.{large_residue_in}
use Rattle.vp_recon.proofs.StripLemmas.{StripsTo}
use Rattle.vp_recon.proofs.add.add_large_to_strips.Given as goal

abbrev pub invariant-loop-i : goal.invariant-loop-i
invariant-loop-i g l = record {
  here : l.strip ≡ l.at + l.i * (4 * l.stride);
  pixels : StripsTo g.row.ACROSS (large_residue_in l.inputs) l.initial.pixels l.at l.stride l.i l.pixels;
}
