use Rattle.std.proofs.Common.{◌≡◌, arith, add-one, get_or}
use Rattle.vp_bool.proofs.WritingLemmas.{each-written, each-unwritten}
use Rattle.vp_head.specs.Probabilities.{entry_at}
use Rattle.vp_head.proofs.Mixed.{mixed-at, mixed-more, mixed-all}
use Rattle.vp_head.proofs.probability_writing.write_context.Goals as goal

pub loop-i-init : goal.loop-i-init
loop-i-init c = each-unwritten _ _ _ _

pub loop-i-preserved : goal.loop-i-preserved
loop-i-preserved c =
    let at = mixed-at 0 c.loop-i.i c.args.new.now c.args.old.now (omega arith) in
    let more = mixed-more 0 c.loop-i.i c.args.new.now c.args.old.now (omega arith) (omega arith) in
    each-written 0 c.loop-i.i (entry_at c.args.table.now) c.args.old.now _ _ (get_or c.args.new.now c.loop-i.i 0) c.loop-i.invariant (rw at c.in_ok-write_renewed.ensures) (rw add-one more)

pub returns : goal.returns
returns c =
    let e : c.loop-i.i ≡ 11 = omega arith in
    let all = mixed-all 11 c.args.new.now c.args.old.now c.told-new c.told-old in
    let w = rw e at c.loop-i.invariant in
    rw (← all) w
