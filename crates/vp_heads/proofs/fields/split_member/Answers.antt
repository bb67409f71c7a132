use Rattle.std.proofs.Common.{sym}
use Rattle.vp_heads.proofs.FieldLemmas.{position_none}
use Rattle.vp_heads.specs.Fields.{is_comma}
use Rattle.vp_heads.proofs.fields.split_member.Goals as goal

pub returns-in_default : goal.returns-in_default
returns-in_default c = position_none is_comma c.args.value.now (sym c.in_default.ensures.place)
