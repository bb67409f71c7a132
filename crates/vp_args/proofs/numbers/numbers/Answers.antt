use Rattle.std.proofs.Common.{◌≡◌, rules, arith, length-set}
use Rattle.clap.specs.Words.{found_of, rows_of}
use Rattle.vp_args.proofs.NumberLemmas.{are_numbers, missed_at, one_number_more}
use Rattle.vp_args.proofs.numbers.numbers.Goals as goal

pub returns-in_err-all-clause-refusal : goal.returns-in_err-all-clause-refusal
returns-in_err-all-clause-refusal g c =
    let missed = missed_at (rows_of (found_of c.args.found.now)) c.args.table.now c.loop-i.i _ (omega arith) c.in_err-all.ensures.refusal.1 in search rules

pub loop-i-preserved : goal.loop-i-preserved
loop-i-preserved g c =
    (rw length-set c.loop-i.invariant.0, one_number_more (rows_of (found_of c.args.found.now)) c.args.table.now c.loop-i.all c.loop-i.i c.in_ok-all.field-0 _ (omega arith) (omega arith) c.loop-i.invariant.1 c.in_ok-all.ensures.number)

pub returns-clause-numbers : goal.returns-clause-numbers
returns-clause-numbers g c =
    are_numbers (rows_of (found_of c.args.found.now)) c.args.table.now c.loop-i.all 0 (λ k j d e l. let same : j ≡ k = omega arith in rw same (c.loop-i.invariant.1 k d (omega arith)))
