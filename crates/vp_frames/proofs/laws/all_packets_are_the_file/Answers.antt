use Rattle.std.proofs.Common.{List, ap, ◌+◌, ◌<◌, arith}
use Rattle.vp_frames.proofs.RangeLemmas.{get_range}
use Rattle.vp_decode.specs.Step.{Answer}
use Rattle.vp_stream.specs.Answers.{reading_of, answers_of}
use Rattle.vp_stream.specs.Texts.{shown_in, text}
use Rattle.vp_frames.proofs.CountLemmas.{each_decoded}
use Rattle.vp_frames.proofs.LawLemmas.{all_answers, all_faults}
use Rattle.vp_frames.proofs.laws.all_packets_are_the_file.Goals as goal

pub returns-clause-text : goal.returns-clause-text
returns-clause-text c limits form file range none past =
    ap (λ (answers : List Answer). text form (reading_of limits file).head (shown_in answers)) (all_answers limits file range none past)

pub returns-clause-faults : goal.returns-clause-faults
returns-clause-faults c limits file range none past = all_faults limits file range none past

pub returns-clause-decoded : goal.returns-clause-decoded
returns-clause-decoded c packets range none past = each_decoded packets range none past

pub returns-clause-each : goal.returns-clause-each
returns-clause-each c limits file range i le =
    let lt : range.first + i < range.last + 1 = omega (arith, le) in
    get_range (answers_of limits file) range.first (range.last + 1) i lt
