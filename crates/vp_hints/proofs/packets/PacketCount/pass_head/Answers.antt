use Rattle.std.proofs.Common.{◌∙◌, ap, rules}
use Rattle.vp_hints.specs.Packets.{time_behind}
use Rattle.vp_hints.proofs.PacketLemmas.{head_passed}
use Rattle.vp_hints.proofs.packets.PacketCount.pass_head.Goals as goal
use Rattle.vp_hints.proofs.packets.PacketCount.pass_head.Goals.{then-size-eq0, else-size-eq0}

pub returns : goal.returns
returns c =
    head_passed c.args.self.now c.place_behind_head-self.result c.if-size-eq0.self.whole c.time_behind-time.result c.shifted-size.result c.shifted-size-2.result c.shifted-size-3.result c.shifted-size-4.result
    c.args.head.now c.requires.first c.requires.size c.shifted-size.ensures c.shifted-size-2.ensures c.shifted-size-3.ensures c.shifted-size-4.ensures
    c.place_behind_head-self.ensures (elim c.if-size-eq0.branch [
      | then-size-eq0 w ↦ search rules
      | else-size-eq0 w ↦ search rules
    ]) (c.time_behind-time.ensures ∙ ap (time_behind c.args.self.now.time) c.split_at.ensures.back)
