use Rattle.std.proofs.Common.{◌≡◌}
use Rattle.vp_base.specs.Image.{with_plane}
use Rattle.vp_recon.proofs.LumaLemmas.{first_subs}
use Rattle.vp_recon.proofs.macroblock.rebuild_subs.Given as goal

abbrev pub invariant-loop-k : goal.invariant-loop-k
invariant-loop-k l = record {
  pixels : l.picture ≡ with_plane l.fn.picture 0 (first_subs l.modes l.tokens l.factors l.place l.k l.fn.picture.luma);
  wide : l.picture.luma.width ≡ l.fn.picture.luma.width;
  high : l.picture.luma.height ≡ l.fn.picture.luma.height;
}
