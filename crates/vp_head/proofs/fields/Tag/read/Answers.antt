use Rattle.vp_head.proofs.TagLemmas.{word_in_range}
use Rattle.vp_head.proofs.fields.Tag.read.Goals as goal

pub returns-clause-bounds : goal.returns-clause-bounds
returns-clause-bounds c = rw c.tag_from.ensures (word_in_range c.args.limits.now _ c.args.packet.now)
