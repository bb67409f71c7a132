use Rattle.std.proofs.Common.{[]}
use Rattle.vp_decode.proofs.Words.{◌∙◌, ap, State, bind, four_signed, segment_values}
use Rattle.vp_decode.proofs.header_start.pass_segment_values.Goals as goal

-- without kept values the four are optional numbers over 0
pub returns : goal.returns
unfolding segment_values four_signed bind
returns c =
    c.pass_four_signed-2.ensures []
    ∙ ap (λ (s : State). (four_signed 6 [] s).1) (c.pass_four_signed.ensures [] ∙ ap (λ (s : State). (four_signed 7 [] s).1) c.read.ensures.rest)
