use Rattle.std.proofs.Common.{◌≡◌, [], arith, add-one, get_or}
use Rattle.vp_bool.proofs.WritingLemmas.{each-written, each-unwritten}
use Rattle.vp_head.specs.Probabilities.{type_at, token_probability_updates}
use Rattle.vp_tables.specs.Tables.{coefficient_updates}
use Rattle.vp_head.proofs.Mixed.{mixed-at, mixed-more, mixed-all}
use Rattle.vp_head.proofs.probability_writing.write_coefficients.Goals as goal

pub loop-i-init : goal.loop-i-init
loop-i-init c = each-unwritten _ _ _ _

pub loop-i-preserved : goal.loop-i-preserved
loop-i-preserved c =
    let at = mixed-at [] c.loop-i.i c.args.new.now c.args.old.now (omega arith) in
    let more = mixed-more [] c.loop-i.i c.args.new.now c.args.old.now (omega arith) (omega arith) in
    each-written [] c.loop-i.i (type_at coefficient_updates) c.args.old.now _ _ (get_or c.args.new.now c.loop-i.i []) c.loop-i.invariant (rw at (rw c.coefficient_updates-table.ensures at c.in_ok-write_type.ensures)) (rw add-one more)

pub returns : goal.returns
unfolding token_probability_updates
returns c =
    let e : c.loop-i.i ≡ 4 = omega arith in
    let all = mixed-all 4 c.args.new.now c.args.old.now c.told-new c.told-old in
    let w = rw e at c.loop-i.invariant in
    rw (← all) w
