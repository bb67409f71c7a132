use Rattle.std.proofs.Common.{rules}
use Rattle.vp_args.proofs.range_args.some_packets.Goals as goal

pub returns-in-None-clause-refusal : goal.returns-in-None-clause-refusal
returns-in-None-clause-refusal c = (tt, c.span.ensures.none (search rules))
