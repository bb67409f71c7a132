use Rattle.std.proofs.Common.{◌∙◌, rules}
use Rattle.vp_y4m.proofs.NumberLemmas.{parse-number_in, digits_are_text}
use Rattle.vp_y4m.proofs.header.number.Goals as goal

pub returns-in_default : goal.returns-in_default
returns-in_default c = absurd (c.in_default.ensures.cases.0 (digits_are_text c.args.text.now (search rules)))

pub returns : goal.returns
returns c =
    c.ok.ensures.value
    ∙ parse-number_in c.args.text.now c.parse.result (rw c.in-Ok.ensures.cases.0 at c.parse.ensures.value.0) (search rules)
