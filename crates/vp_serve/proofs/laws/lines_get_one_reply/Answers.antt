use Rattle.vp_serve.proofs.LineReplies.{one_reply}
use Rattle.vp_serve.proofs.laws.lines_get_one_reply.Goals as goal

pub returns : goal.returns
returns c = one_reply
