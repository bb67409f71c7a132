use Rattle.std.proofs.Common.{true, false, refl}
use Rattle.vp_ivf.proofs.Writing.{stands_packet}
use Rattle.vp_ivf.proofs.writer.Writer.packet.Goals as goal

pub returns-in-Ok-clause-stands : goal.returns-in-Ok-clause-stands
returns-in-Ok-clause-stands g c = λ calm h s.
    stands_packet _ _ _ h _ false calm refl c.if-self.false c.in-Ok.ensures.ok c.in-Ok.ensures.ok_count s

pub returns-in-Err-clause-stands : goal.returns-in-Err-clause-stands
returns-in-Err-clause-stands g c = λ calm h s.
    stands_packet _ _ _ h _ true calm refl refl c.put_packet.ensures.prefix c.in-Err.ensures.device s
