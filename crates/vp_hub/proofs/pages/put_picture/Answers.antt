use Rattle.std.proofs.Common.{◌∙◌, Ok, Err, Result, subst, sym, inr}
use Rattle.std.specs.Prelude.{OnOk, OnErr}
use Rattle.vp_stream.specs.Seeking.{AnswerValue}
use Rattle.vp_cache.specs.Cache.{IsAfter, cached}
use Rattle.vp_hub.proofs.pages.put_picture.Goals as goal

on_ok : {X Y P : Type 0} (r : Result X Y) → P → OnOk r P
on_ok (Ok x) p = p
on_ok (Err y) p = tt

on_err : {X Y P : Type 0} (r : Result X Y) → P → OnErr r P
on_err (Ok x) p = tt
on_err (Err y) p = p

-- ---- memory ran out while the packet was decoded

pub returns-in_err-answer-clause-most : goal.returns-in_err-answer-clause-most
returns-in_err-answer-clause-most c = on_err c.from_residual-in_err-answer.result c.in_err-answer.ensures.most

pub returns-in_err-answer-clause-kept : goal.returns-in_err-answer-clause-kept
returns-in_err-answer-clause-kept c = c.in_err-answer.ensures.kept

pub returns-in_err-answer-clause-cursors : goal.returns-in_err-answer-clause-cursors
returns-in_err-answer-clause-cursors c = record {
  limits = c.requires.cursors.limits ∙ sym c.in_err-answer.ensures.same_limits;
  entries = c.in_err-answer.ensures.cursors_kept;
}

pub returns-in_err-answer-clause-others : goal.returns-in_err-answer-clause-others
returns-in_err-answer-clause-others c = c.in_err-answer.ensures.others

pub returns-in_err-answer-clause-cursors_of_others : goal.returns-in_err-answer-clause-cursors_of_others
returns-in_err-answer-clause-cursors_of_others c other s apart was = record {
  limits = was.limits ∙ sym c.in_err-answer.ensures.same_limits;
  entries = c.in_err-answer.ensures.cursors_of_others other s apart was.entries;
}

-- ---- the packet was decoded

pub returns-clause-work : goal.returns-clause-work
returns-clause-work c = on_ok c.put_answer.result c.in_ok-answer.ensures.work

pub returns-clause-after : goal.returns-clause-after
returns-clause-after c =
    let old = c.args.pictures.now.kept.cache in
    let asked = c.args.asked in
    let after = subst (λ (v : AnswerValue). IsAfter old asked.place asked.n (cached asked.place asked.n old.entries) v c.picture_from.new.self) c.in_ok-answer.ensures.answer c.in_ok-answer.ensures.entries in
    on_ok c.put_answer.result (after, c.in_ok-answer.ensures.cursors)

pub returns-clause-left : goal.returns-clause-left
returns-clause-left c =
    let old = c.args.pictures.now.kept.cache in
    let asked = c.args.asked in
    let after = subst (λ (v : AnswerValue). IsAfter old asked.place asked.n (cached asked.place asked.n old.entries) v c.picture_from.new.self) c.in_ok-answer.ensures.answer c.in_ok-answer.ensures.entries in
    on_err c.put_answer.result (inr (inr (after, c.in_ok-answer.ensures.cursors)))

pub returns-clause-kept : goal.returns-clause-kept
returns-clause-kept c = c.in_ok-answer.ensures.kept

pub returns-clause-cursors : goal.returns-clause-cursors
returns-clause-cursors c = record {
  limits = c.requires.cursors.limits ∙ sym c.in_ok-answer.ensures.same_limits;
  entries = c.in_ok-answer.ensures.cursors_kept;
}

pub returns-clause-others : goal.returns-clause-others
returns-clause-others c = c.in_ok-answer.ensures.others

pub returns-clause-cursors_of_others : goal.returns-clause-cursors_of_others
returns-clause-cursors_of_others c other s apart was = record {
  limits = was.limits ∙ sym c.in_ok-answer.ensures.same_limits;
  entries = c.in_ok-answer.ensures.cursors_of_others other s apart was.entries;
}
