use Rattle.std.proofs.Common.{◌≡◌, arith}
use Rattle.std.proofs.lemmas.Grind.{common_steps}
use Rattle.vp_choose.proofs.luma.choose_whole_luma.Goals as goal

pub returns-in_default-clause-best : goal.returns-in_default-clause-best
returns-in_default-clause-best c f e =
    let three : c.first_least.result ≡ 3 = omega (arith, c.first_least.ensures.within) in
    grind (arith, common_steps)
