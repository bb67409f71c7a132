use Rattle.std.proofs.Common.{◌≡◌, ap, ◌∙◌, sym, replicate, rules, pos, ◌+ℤ◌}
use Rattle.vp_transform.specs.Fits.{Fits}
use Rattle.vp_transform.proofs.Bounds.{iwht-first_alone}
use Rattle.vp_transform.proofs.Words.{read}
use Rattle.vp_transform.proofs.hadamard.iwht_of_dc.Goals as goal
use lib.Signed.{shr_z as floor_div}

pub returns-clause-value : goal.returns-clause-value
returns-clause-value c =
    let e : c.round.result ≡ floor_div (c.args.dc +ℤ pos 3) 8 = c.round.ensures ∙ ap (λ v. floor_div (v +ℤ pos 3) 8) (read c.args.dc c.ranges.dc) in
    let f : Fits c.round.result = search rules in
    iwht-first_alone c.args.dc ∙ ap (λ v. replicate 16 v) (sym (read c.round.result f ∙ e))
