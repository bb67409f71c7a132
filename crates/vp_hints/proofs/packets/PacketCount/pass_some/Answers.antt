use Rattle.vp_hints.proofs.PacketLemmas.{then_inside}
use Rattle.vp_hints.proofs.packets.PacketCount.pass_some.Goals as goal

pub returns-clause-passed : goal.returns-clause-passed
returns-clause-passed c =
    let h = c.pass_inside.ensures.passed in
    then_inside c.args.self.now c.pass_first-others.new.self c.pass_inside.new.self c.args.bytes.now c.pass_first-others.result.now h.0 c.pass_inside.result.now
    c.pass_first-others.ensures.passed h.1 h.2
