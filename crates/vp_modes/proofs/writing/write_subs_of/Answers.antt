use Rattle.std.proofs.Common.{◌≡◌, ◌∙◌, false, sym}
use Rattle.vp_bool.proofs.WritingLemmas.{Continues-given}
use Rattle.vp_tables.specs.Modes.{is_by_subblocks}
use Rattle.vp_modes.proofs.writing.write_subs_of.Goals as goal

pub returns-else-is_by_subblocks : goal.returns-else-is_by_subblocks
returns-else-is_by_subblocks c =
    let e : is_by_subblocks c.args.luma ≡ false = sym c.is_by_subblocks.ensures ∙ c.if-is_by_subblocks.false in
    rw e (Continues-given (sym (c.requires.unread e)) _)
