use Rattle.vp_decode.proofs.Words.{parsed}
use Rattle.vp_decode.proofs.OutcomeLemmas.{without_context, with_context}
use Rattle.vp_decode.proofs.outcome_reader.read_checked_tag.Goals as goal

pub returns-in-Err : goal.returns-in-Err
unfolding parsed
returns-in-Err c state same = rw (← c.in-Err.ensures.value)

pub returns-then-not-has_context : goal.returns-then-not-has_context
unfolding parsed
returns-then-not-has_context c state same = rw (← c.in-Ok.ensures.value) (without_context c.in-Ok.tag _ state c.args.packet.now (rw (← same) c.if-not-has_context.ensures))

pub returns : goal.returns
unfolding parsed
returns c state same = rw (← c.in-Ok.ensures.value) (with_context c.in-Ok.tag _ state c.args.packet.now _ (rw (← same) c.if-not-has_context.ensures) c.check_partitions.ensures)
