use Rattle.std.proofs.Common.{◌≡◌, ◌≤◌, ◌∙◌, ap, arith}
use Rattle.vp_stream.specs.Cursor.{work_from}
use Rattle.vp_stream.proofs.CursorLemmas.{at_most, no_more, again}
use Rattle.vp_stream.proofs.stream.Stream.picture_from.Goals as goal

pub returns-then-is_err-clause-least : goal.returns-then-is_err-clause-least
returns-then-is_err-clause-least c =
    let ps = c.args.self.now.reading.packets in
    let answered = c.answer_from_cursor-answer in
    let most : answered.new.decoded ≤ work_from ps c.args.cursor.now.next c.args.n = at_most answered.result _ _ answered.ensures.count answered.ensures.most in
    omega (arith, most, no_more ps c.args.cursor.now.next c.args.n)

pub returns-else-is_err-clause-least : goal.returns-else-is_err-clause-least
returns-else-is_err-clause-least c =
    let ps = c.args.self.now.reading.packets in
    let answered = c.answer_from_cursor-answer in
    let most : answered.new.decoded ≤ work_from ps c.args.cursor.now.next c.args.n = at_most answered.result _ _ answered.ensures.count answered.ensures.most in
    omega (arith, most, no_more ps c.args.cursor.now.next c.args.n)

pub returns-then-is_err-clause-again : goal.returns-then-is_err-clause-again
returns-then-is_err-clause-again c = λ e.
    let ps = c.args.self.now.reading.packets in
    let answered = c.answer_from_cursor-answer in
    let most : answered.new.decoded ≤ work_from ps c.args.cursor.now.next c.args.n = at_most answered.result _ _ answered.ensures.count answered.ensures.most in
    let none : work_from ps c.args.cursor.now.next c.args.n ≡ 0 = ap (λ next. work_from ps next c.args.n) e ∙ again ps c.args.n in
    omega (arith, most, none)

pub returns-else-is_err-clause-again : goal.returns-else-is_err-clause-again
returns-else-is_err-clause-again c = λ e.
    let ps = c.args.self.now.reading.packets in
    let answered = c.answer_from_cursor-answer in
    let most : answered.new.decoded ≤ work_from ps c.args.cursor.now.next c.args.n = at_most answered.result _ _ answered.ensures.count answered.ensures.most in
    let none : work_from ps c.args.cursor.now.next c.args.n ≡ 0 = ap (λ next. work_from ps next c.args.n) e ∙ again ps c.args.n in
    omega (arith, most, none)
