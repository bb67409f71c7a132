use Rattle.std.proofs.Common.{sym}
use Rattle.vp_y4m.proofs.HeaderLemmas.{position_none}
use Rattle.vp_y4m.specs.Header.{is_space}
use Rattle.vp_y4m.proofs.header.split_token.Goals as goal

pub returns-in_default : goal.returns-in_default
returns-in_default c = position_none is_space c.args.line.now (sym c.in_default.ensures.place)
