use Rattle.std.proofs.Common.{◌∙◌, ◌++◌, ap, refl, rules, sym}
use Rattle.vp_hints.proofs.PacketLemmas.{inside_passed}
use Rattle.vp_hints.proofs.packets.PacketCount.pass_inside.Goals as goal

pub returns-clause-passed : goal.returns-clause-passed
returns-clause-passed c =
    let h = inside_passed c.args.self.now _ c.in-Packet.left c.min-inside.result c.args.bytes.now c.in-Packet.is (search rules) (search rules) refl in
    (h.0, h.1 ∙ ap (λ rest. h.0 ++ rest) (sym c.split_at.ensures.back), h.2)
