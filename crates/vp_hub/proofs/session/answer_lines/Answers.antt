use Rattle.std.proofs.Common.{◌≡◌, ◌∙◌, ◌∷◌, ◌++◌, [], Bool, true, false, Result, Ok, Err, take, refl, subst}
use Rattle.std.proofs.lemmas.Result.{err_from_is_err_and}
use Rattle.vp_base.specs.Counted.{counted_contents, counted_failures, HasFailed}
use Rattle.vp_hub.specs.declared.session.ServeFault.{ServeFault}
use Rattle.vp_hub.specs.declared.session.ServeFault.TheVariants.{Device}
use Rattle.vp_hub.specs.Sessions.{AnswersLine}
use Rattle.vp_hub.proofs.Visiting.{answers_last, answers_on, goes_on_more, lines_push, rest_fits, stops_in}
use Rattle.vp_hub.proofs.session.answer_lines.Goals as goal

-- what was answered is no failed device
no_failure : (more : Bool) → ◌≡◌ {A = Result Bool ServeFault} (Ok more) (Err Device) → ⊥
no_failure more e = cc

pub loop-rest-init : goal.loop-rest-init
loop-rest-init g c = ([], refl, (refl, refl), refl, c.requires.1)

pub answer_line-requires-clause-is_line : goal.answer_line-requires-clause-is_line
answer_line-requires-clause-is_line g c = c.first_line-count.ensures.line

pub returns-in_err-answer_line-clause-answered : goal.returns-in_err-answer_line-clause-answered
returns-in_err-answer_line-clause-answered g c =
    let inv = c.loop-rest.invariant in
    let rest = c.loop-rest.rest.now in
    let n = c.first_line-count.result in
    let mid = counted_contents g.W.Write.contents c.loop-rest.writer in
    let then = counted_contents g.W.Write.contents c.answer_line.new.writer in
    let p = err_from_is_err_and c.from_residual.result c.from_residual.ensures.1 in
    let x = subst (λ k. AnswersLine c.args.conn c.loop-rest.hub c.answer_line.new.hub (Err c.in_err-answer_line.field-0.0) (take n rest) mid then (HasFailed k (counted_failures c.answer_line.new.writer))) inv.3 c.in_err-answer_line.ensures.answered in
    rw (p.1, p.2)
    (stops_in c.args.conn c.args.hub.now c.loop-rest.hub c.answer_line.new.hub (Err c.in_err-answer_line.field-0.0) inv.0 c.args.piece.now rest n (counted_contents g.W.Write.contents c.args.writer.now) mid then
    (HasFailed (counted_failures c.args.writer.now) (counted_failures c.answer_line.new.writer)) inv.1 inv.2 x)

pub returns-then-not-branch-clause-answered : goal.returns-then-not-branch-clause-answered
returns-then-not-branch-clause-answered g c =
    let inv = c.loop-rest.invariant in
    let rest = c.loop-rest.rest.now in
    let n = c.first_line-count.result in
    let mid = counted_contents g.W.Write.contents c.loop-rest.writer in
    let then = counted_contents g.W.Write.contents c.answer_line.new.writer in
    let failed = HasFailed (counted_failures c.args.writer.now) (counted_failures c.answer_line.new.writer) in
    let x = answers_last c.args.conn c.loop-rest.hub c.answer_line.new.hub (take n rest) mid then (HasFailed (counted_failures c.loop-rest.writer) (counted_failures c.answer_line.new.writer)) failed
    c.in_ok-answer_line.field-0 c.if-not-branch.true c.in_ok-answer_line.ensures.answered in
    stops_in c.args.conn c.args.hub.now c.loop-rest.hub c.answer_line.new.hub (Ok false) inv.0 c.args.piece.now rest n (counted_contents g.W.Write.contents c.args.writer.now) mid then failed inv.1 inv.2 x

pub loop-rest-preserved : goal.loop-rest-preserved
loop-rest-preserved g c =
    let inv = c.loop-rest.invariant in
    let rest = c.loop-rest.rest.now in
    let n = c.first_line-count.result in
    let mid = counted_contents g.W.Write.contents c.loop-rest.writer in
    let then = counted_contents g.W.Write.contents c.answer_line.new.writer in
    let x = answers_on c.args.conn c.loop-rest.hub c.answer_line.new.hub (take n rest) mid then (HasFailed (counted_failures c.loop-rest.writer) (counted_failures c.answer_line.new.writer))
    c.in_ok-answer_line.field-0 c.if-not-branch.false c.in_ok-answer_line.ensures.answered in (
      inv.0 ++ take n rest ∷ [],
      lines_push inv.0 c.args.piece.now rest n inv.1,
      goes_on_more c.args.conn inv.0 (take n rest) c.args.hub.now c.loop-rest.hub c.answer_line.new.hub (counted_contents g.W.Write.contents c.args.writer.now) mid then inv.2 x,
      c.in_ok-answer_line.ensures.quiet (no_failure c.in_ok-answer_line.field-0) ∙ inv.3,
      rest_fits rest n inv.4,
    )

pub returns-then-not-branch-clause-device : goal.returns-then-not-branch-clause-device
returns-then-not-branch-clause-device g c e = absurd (no_failure false e)

pub returns-then-not-branch-clause-quiet : goal.returns-then-not-branch-clause-quiet
returns-then-not-branch-clause-quiet g c _ = c.in_ok-answer_line.ensures.quiet (no_failure c.in_ok-answer_line.field-0) ∙ c.loop-rest.invariant.3

pub returns-clause-device : goal.returns-clause-device
returns-clause-device g c e = absurd (no_failure true e)

pub returns-clause-quiet : goal.returns-clause-quiet
returns-clause-quiet g c _ = c.loop-rest.invariant.3
