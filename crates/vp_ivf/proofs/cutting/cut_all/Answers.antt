use Rattle.std.proofs.Common.{◌-◌, arith, sym}
use Rattle.std.proofs.lemmas.Grind.{common_steps}
use Rattle.vp_ivf.proofs.Cuts.{goes_on, ends_waiting, ends_faulty, ends_full}
use Rattle.vp_ivf.proofs.cutting.cut_all.Goals as goal

pub returns-in-Err-clause-cuts : goal.returns-in-Err-clause-cuts
returns-in-Err-clause-cuts c =
    ends_faulty _ c.args.max (c.args.left - c.loop-i.i) c.loop-i.used c.args.bytes.now c.split_at.result.1.now _ _ _
    c.split_at.ensures.back c.in-Err.ensures.value c.loop-i.invariant.1

pub returns-in-Ok-None-clause-cuts : goal.returns-in-Ok-None-clause-cuts
returns-in-Ok-None-clause-cuts c =
    ends_waiting _ c.args.max (c.args.left - c.loop-i.i) c.loop-i.used c.args.bytes.now c.split_at.result.1.now _ _
    c.split_at.ensures.back (rw c.in-Ok-None.field-0-is at c.in-Ok-None.ensures.value) c.loop-i.invariant.1

pub loop-i-preserved : goal.loop-i-preserved
loop-i-preserved c =
    let found = rw c.in-Ok-Some.field-0-is at c.in-Ok-Some.ensures.value in
    let whole = rw c.in-Ok-Some.field-0-is at c.in-Ok-Some.ensures.whole in
    let size = c.in-Ok-Some.size in (
      grind (arith, common_steps, whole),
      rw (c.in_ok-push_back-in-Ok-Some.ensures.items, c.in_ok-packet_of-in-Ok-Some.ensures, c.split_at.ensures.back)
          (goes_on _ c.args.max c.args.left c.loop-i.i c.loop-i.used size c.args.bytes.now c.loop-i.packets.items _ c.loop-i-test.true
          (rw (← c.split_at.ensures.back) (sym found)) c.loop-i.invariant.1),
    )

pub returns-clause-cuts : goal.returns-clause-cuts
returns-clause-cuts c =
    rw c.err-fault.ensures.value
    (ends_full _ c.args.max (c.args.left - c.loop-i.i) c.loop-i.used c.args.bytes.now c.split_at-2.result.1.now _ _ c.size_at-2.result
    (omega arith) c.split_at-2.ensures.back c.size_at-2.ensures.value c.loop-i.invariant.1)
