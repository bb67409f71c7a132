use Rattle.std.proofs.Common.{ap, ◌∙◌, ◌≡◌, pos}
use Rattle.vp_loop.specs.LineSteps.{filter_value, eighth}
use Rattle.vp_loop.proofs.Shift.{same_is}
use Rattle.vp_loop.proofs.FilterValueLemmas.{up_by, down_by}
use Rattle.vp_loop.proofs.lines.common_adjust_by.Goals as goal

pub returns : goal.returns
returns c outer a =
    let l = c.args.line in
    let b = same_is _ c.requires ∙ a in
    let up : c.eighth-up.result ≡ eighth (filter_value outer l) (pos 3) = c.eighth-up.ensures.value ∙ ap (λ z. eighth z (pos 3)) b in
    let down : c.eighth-down.result ≡ eighth (filter_value outer l) (pos 4) = c.eighth-down.ensures.value ∙ ap (λ z. eighth z (pos 4)) b in
    let p = up_by _ _ _ _ c.raised.ensures c.eighth-up.ensures.range up in
    let q = down_by _ _ _ _ c.lowered.ensures c.eighth-down.ensures.range down in
    λ i. record l { p0 = p i; q0 = q i }
