use Rattle.std.proofs.Common.{◌≡◌, ◌∙◌, sym, true, false}
use Rattle.vp_head.proofs.Signs.{same_values, equal_values}
use Rattle.vp_head.proofs.row_writing.are_same.Goals as goal

pub returns-clause-yes : goal.returns-clause-yes
returns-clause-yes c h = same_values c.args.a.now c.args.b.now (sym c.eq.ensures ∙ h)

pub returns-clause-no : goal.returns-clause-no
returns-clause-no c h e =
    let yes : true ≡ false = sym (equal_values c.args.a.now c.args.b.now e) ∙ sym c.eq.ensures ∙ h in
    absurd cc
