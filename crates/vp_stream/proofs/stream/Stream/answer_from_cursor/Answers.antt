use Rattle.std.proofs.Common.{◌+◌, ◌≤◌, ◌<◌, ◌∙◌, sym, ap, arith, length}
use Rattle.std.proofs.lemmas.Result.{IfOk-weaker}
use Rattle.vp_stream.specs.Cursor.{Cursor}
use Rattle.vp_stream.proofs.AnswerLemmas.{no_answer}
use Rattle.vp_stream.proofs.CursorLemmas.{nothing_there, stays_there, goes_behind, answer_behind, stands_behind, next_behind}
use Rattle.vp_stream.proofs.stream.Stream.answer_from_cursor.Goals as goal

pub returns-then-n-count-clause-answer : goal.returns-then-n-count-clause-answer
returns-then-n-count-clause-answer c =
    let past : length c.args.self.now.reading.packets ≤ c.args.n = omega (arith, c.count.ensures.value, c.if-n-count.true) in
    sym (no_answer c.args.self.now.limits c.args.self.now.reading.packets c.args.n past)

pub returns-then-n-count-clause-next : goal.returns-then-n-count-clause-next
returns-then-n-count-clause-next c =
    let past : length c.args.self.now.reading.packets ≤ c.args.n = omega (arith, c.count.ensures.value, c.if-n-count.true) in
    sym (stays_there c.args.self.now.reading.packets c.args.cursor.now.next c.args.n past)

pub returns-then-n-count-clause-count : goal.returns-then-n-count-clause-count
returns-then-n-count-clause-count c =
    let past : length c.args.self.now.reading.packets ≤ c.args.n = omega (arith, c.count.ensures.value, c.if-n-count.true) in
    c.requires.none ∙ sym (nothing_there c.args.self.now.reading.packets c.args.cursor.now.next c.args.n past)

pub returns-clause-answer : goal.returns-clause-answer
returns-clause-answer c =
    let within : c.args.n < length c.args.self.now.reading.packets = omega (arith, c.count.ensures.value, c.if-n-count.false) in
    IfOk-weaker c.answer.result _ _
    (λ a e. e ∙ (ap (λ (k : Cursor). k.last) c.in_ok-move_behind.ensures.cursor ∙ answer_behind c.args.self.now.limits c.args.self.now.reading.packets c.args.n within))
    c.answer.ensures

pub returns-clause-cursor : goal.returns-clause-cursor
returns-clause-cursor c =
    let within : c.args.n < length c.args.self.now.reading.packets = omega (arith, c.count.ensures.value, c.if-n-count.false) in
    IfOk-weaker c.answer.result _ _
    (λ a e. stands_behind c.args.self.now c.move_behind.new.cursor c.args.n within c.in_ok-move_behind.ensures.cursor)
    c.answer.ensures

pub returns-clause-next : goal.returns-clause-next
returns-clause-next c =
    let ps = c.args.self.now.reading.packets in
    let within : c.args.n < length ps = omega (arith, c.count.ensures.value, c.if-n-count.false) in
    IfOk-weaker c.answer.result _ _
    (λ a e. ap (λ (k : Cursor). k.next) c.in_ok-move_behind.ensures.cursor
    ∙ (next_behind c.args.self.now.limits ps (c.args.n + 1) (omega arith) ∙ sym (goes_behind ps c.args.cursor.now.next c.args.n within)))
    c.answer.ensures
