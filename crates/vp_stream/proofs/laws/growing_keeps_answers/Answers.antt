use Rattle.std.proofs.Common.{List, ◌∙◌, ap, None}
use Rattle.vp_ivf.specs.declared.packet.Packet.{Packet}
use Rattle.vp_stream.specs.Answers.{reading_of}
use Rattle.vp_stream.specs.Seeking.{answer_at}
use Rattle.vp_stream.proofs.AnswerLemmas.{answers_stay}
use Rattle.vp_stream.proofs.laws.growing_keeps_answers.Goals as goal

pub returns : goal.returns
returns c limits file more n h =
    let grown = c.growing_keeps_what_was_read.ensures.packets limits.packet_bytes limits.packets file more in
    ap (λ (ps : List Packet). answer_at limits ps n) grown.1 ∙ answers_stay limits None (reading_of limits file).packets grown.0 n h
