use Rattle.std.proofs.Common.{◌≡◌, ◌≤◌, ◌<◌, ◌-◌, ◌+◌, ◌∙◌, sym, ap, arith, length}
use Rattle.std.proofs.lemmas.Grind.{common_steps}
use Rattle.std.proofs.lemmas.Result.{on_ok_weaker, on_err_weaker}
use Rattle.vp_stream.specs.Seeking.{seek_start}
use Rattle.vp_stream.proofs.AnswerLemmas.{no_answer, no_work, work_there, first_le}
use Rattle.vp_stream.proofs.stream.Stream.decode_to.Goals as goal

pub returns-then-n-count-clause-answer : goal.returns-then-n-count-clause-answer
returns-then-n-count-clause-answer c =
    let past : length c.args.self.now.reading.packets ≤ c.args.n = omega (arith, c.count.ensures.value, c.if-n-count.true) in
    sym (no_answer c.args.self.now.limits c.args.self.now.reading.packets c.args.n past)

pub returns-then-n-count-clause-count : goal.returns-then-n-count-clause-count
returns-then-n-count-clause-count c =
    let past : length c.args.self.now.reading.packets ≤ c.args.n = omega (arith, c.count.ensures.value, c.if-n-count.true) in
    c.requires ∙ sym (no_work c.args.self.now.reading.packets c.args.n past)

pub answer_from-requires-clause-order : goal.answer_from-requires-clause-order
answer_from-requires-clause-order c =
    let first : c.unwrap_or-first.result ≡ seek_start c.args.self.now.reading.packets c.args.n = grind (arith, common_steps) in
    omega (arith, first, first_le c.args.self.now.reading.packets c.args.n)

pub returns-clause-count : goal.returns-clause-count
returns-clause-count c =
    let ps = c.args.self.now.reading.packets in
    let first : c.unwrap_or-first.result ≡ seek_start ps c.args.n = grind (arith, common_steps) in
    let within : c.args.n < length ps = omega (arith, c.count.ensures.value, c.if-n-count.false) in
    on_ok_weaker c.answer_from.result (λ e. e ∙ (ap (λ x. c.args.n - x + 1) first ∙ sym (work_there ps c.args.n within))) c.answer_from.ensures.count

pub returns-clause-most : goal.returns-clause-most
returns-clause-most c =
    let ps = c.args.self.now.reading.packets in
    let first : c.unwrap_or-first.result ≡ seek_start ps c.args.n = grind (arith, common_steps) in
    let within : c.args.n < length ps = omega (arith, c.count.ensures.value, c.if-n-count.false) in
    on_err_weaker c.answer_from.result (λ l. omega (arith, l, ap (λ x. c.args.n - x + 1) first, work_there ps c.args.n within)) c.answer_from.ensures.most
