use Rattle.std.proofs.Common.{◌<◌, ◌∙◌, ap, Some, length, rules}
use Rattle.vp_heads.proofs.NumberLemmas.{parse-count_in, digits_are_text}
use Rattle.vp_heads.proofs.numbers.count.Goals as goal

pub returns-in_default : goal.returns-in_default
returns-in_default c = absurd (c.in_default.ensures.cases.0 (digits_are_text c.args.text.now (search rules)))

pub returns : goal.returns
returns c =
    let some : 0 < length c.args.text.now = search rules in
    ap Some c.unwrap_or.ensures
    ∙ parse-count_in c.args.text.now c.parse.result (rw c.in-Ok.ensures.cases.0 at c.parse.ensures.value.0) (search rules) some
