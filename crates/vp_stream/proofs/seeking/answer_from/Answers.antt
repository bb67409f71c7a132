use Rattle.std.proofs.lemmas.Result.{IfOk-weaker}
use Rattle.vp_stream.specs.Seeking.{answer_value}
use Rattle.vp_stream.proofs.AnswerLemmas.{answer_is}
use Rattle.vp_stream.proofs.seeking.answer_from.Goals as goal

pub returns-clause-answer : goal.returns-clause-answer
returns-clause-answer c =
    IfOk-weaker c.answer_to.result _ _
    (λ a e. answer_is c.args.limits c.args.packets.now c.args.first c.args.n c.index-packets-n.result (answer_value a) c.new-decoder.result c.decode_each.new.decoder c.as_slice.result.now
    c.requires.order c.requires.there c.index-packets-n.is c.new-decoder.ensures c.in_ok-decode_each.ensures.limits c.in_ok-decode_each.ensures.state c.as_slice.ensures e)
    c.answer_to.ensures
