use Rattle.std.proofs.Common.{arith}
use Rattle.vp_webp.proofs.Written.{length-file}
use Rattle.vp_webp.proofs.writing.text_len.Goals as goal

pub returns : goal.returns
returns c = omega (arith, length-file c.args.packet.now)
