use Rattle.vp_decode.proofs.Words.{◌∙◌, ap, State, Modes, Grid, maps_read, frame_info_of, maps_before}
use Rattle.vp_decode.proofs.decoded_frame.read_macroblocks.Goals as goal

pub returns-clause-maps : goal.returns-clause-maps
unfolding frame_info_of
returns-clause-maps c = rw (← c.parsed.view_is, ← c.opened.view_is, ← c.copy-first.ensures, ← c.in_ok-reader.ensures.before) c.read-macroblocks.ensures.value

pub returns-clause-past : goal.returns-clause-past
returns-clause-past c =
    rw (← c.parsed.view_is, ← c.opened.view_is, ← c.copy-first.ensures)
    (c.is_past_end.ensures ∙ ap (λ (s : State). s.past) c.read-macroblocks.ensures.rest
    ∙ ap (λ (g : Grid Modes). (maps_read c.parsed.inside.header.now (maps_before g) c.copy-first.result).1.past) c.in_ok-reader.ensures.before)
