use Rattle.std.proofs.Common.{Ok, Err}
use Rattle.vp_decode.proofs.OutcomeLemmas.{checked}
use Rattle.vp_decode.proofs.outcome_reader.check_partitions.Goals as goal

pub returns-in-Ok : goal.returns-in-Ok
returns-in-Ok c context =
    checked c.args.tag context c.args.packet.now _ _ c.read_log2_partitions-log2.result (Ok c.in-Ok.field-0) c.in_ok-first.ensures
    (λ kept. rw (← c.is_some.ensures) (c.read_log2_partitions-log2.ensures.value kept)) (rw (← c.partition_count.ensures.value) c.in-Ok.ensures.value)

pub returns-in-Err : goal.returns-in-Err
returns-in-Err c context =
    checked c.args.tag context c.args.packet.now _ _ c.read_log2_partitions-log2.result (Err c.in-Err.fault) c.in_ok-first.ensures
    (λ kept. rw (← c.is_some.ensures) (c.read_log2_partitions-log2.ensures.value kept)) (rw (← c.partition_count.ensures.value) c.in-Err.ensures.value)
