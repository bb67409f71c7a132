use Rattle.vp_base.proofs.Writes.{front_first, front_second}
use Rattle.vp_live.proofs.writing.put_packet.Goals as goal

pub returns-in_default-clause-prefix : goal.returns-in_default-clause-prefix
returns-in_default-clause-prefix g c = front_first _ _ _ c.args.packet.now (rw c.packet_head_bytes.ensures at c.in_default.ensures.prefix)

pub returns-clause-prefix : goal.returns-clause-prefix
returns-clause-prefix g c =
    front_second _ _ _ _ c.args.packet.now (rw c.packet_head_bytes.ensures at c.in-Ok.ensures.ok) c.put_all-2.ensures.prefix
