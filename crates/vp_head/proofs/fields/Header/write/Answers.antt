use Rattle.std.proofs.Common.{◌≡◌, ◌∙◌, sym, is_some, true, false}
use Rattle.vp_head.specs.Header.{header}
use Rattle.vp_head.proofs.fields.Header.write.Goals as goal

pub returns-in_ok-write_with_kept : goal.returns-in_ok-write_with_kept
unfolding header
returns-in_ok-write_with_kept c =
    let key : is_some c.args.tag.now.key ≡ true = sym c.is_some.ensures ∙ c.if-is_some.true in
    rw key (rw c.defaults.ensures at c.in_ok-write_with_kept.ensures)

pub returns-in_ok-write_with_kept-2 : goal.returns-in_ok-write_with_kept-2
unfolding header
returns-in_ok-write_with_kept-2 c =
    let inter : is_some c.args.tag.now.key ≡ false = sym c.is_some.ensures ∙ c.if-is_some.false in
    rw inter c.in_ok-write_with_kept-2.ensures
