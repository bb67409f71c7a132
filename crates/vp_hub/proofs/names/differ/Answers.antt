use Rattle.std.proofs.Common.{◌∙◌, sym, ap}
use Rattle.std.specs.List.{list_any}
use Rattle.std.specs.Str.{bytes_eq}
use Rattle.vp_hub.proofs.NameLemmas.{distinct_more, not_distinct, none_distinct}
use Rattle.vp_hub.proofs.names.differ.Goals as goal

pub returns-then-has : goal.returns-then-has
returns-then-has c =
    sym (not_distinct c.in-Some.name.now c.loop-name.rest.now c.in-Some.more.now c.in-Some.ensures.cases.0
    (sym (ap (λ n. list_any (λ x. bytes_eq x n) c.in-Some.more.now) c.as_slice.ensures) ∙ (sym c.has.ensures ∙ c.if-has.true)))
    ∙ c.loop-name.invariant

pub loop-name-preserved : goal.loop-name-preserved
loop-name-preserved c =
    sym (distinct_more c.in-Some.name.now c.loop-name.rest.now c.in-Some.more.now c.in-Some.ensures.cases.0
    (sym (ap (λ n. list_any (λ x. bytes_eq x n) c.in-Some.more.now) c.as_slice.ensures) ∙ (sym c.has.ensures ∙ c.if-has.false)))
    ∙ c.loop-name.invariant

pub returns : goal.returns
returns c = sym (none_distinct c.loop-name.rest.now c.in_default.ensures.cases) ∙ c.loop-name.invariant
