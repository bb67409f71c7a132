-- The DC coefficients before k are computed.
use Rattle.std.proofs.Common.{◌≡◌, ◌^◌, length}
use Rattle.vp_recon.proofs.Words.{EachWithin, AreDcs, own_dc}
use Rattle.vp_recon.proofs.dc_coefficients.own_dcs.Given as goal

abbrev pub invariant-loop-k : goal.invariant-loop-k
invariant-loop-k l = record {
  value : AreDcs l.k l.dcs (own_dc l.tokens l.first l.dc);
  within : EachWithin (2 ^ 40) l.dcs;
  size : length l.dcs ≡ 16;
}
