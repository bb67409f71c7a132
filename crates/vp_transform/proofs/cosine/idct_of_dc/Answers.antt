use Rattle.std.proofs.Common.{◌≡◌, ap, ◌∙◌, sym, replicate, rules}
use Rattle.vp_transform.specs.Fits.{Fits}
use Rattle.vp_transform.specs.Transform.{rounded}
use Rattle.vp_transform.proofs.Bounds.{idct-first_alone}
use Rattle.vp_transform.proofs.Words.{read}
use Rattle.vp_transform.proofs.cosine.idct_of_dc.Goals as goal

pub returns-clause-value : goal.returns-clause-value
returns-clause-value c =
    let e : c.round.result ≡ rounded c.args.dc = c.round.ensures ∙ ap (λ v. rounded v) (read c.args.dc c.ranges.dc) in
    let f : Fits c.round.result = search rules in
    idct-first_alone c.args.dc ∙ ap (λ v. replicate 16 v) (sym (read c.round.result f ∙ e))
