use Rattle.std.proofs.Common.{◌≡◌}
use Rattle.vp_base.specs.Counted.{counted_failures, counted_inner}
use Rattle.vp_commands.proofs.unwritten.count_up_to.Given as goal

-- the calls counted so far
abbrev pub invariant-loop-count : goal.invariant-loop-count
invariant-loop-count g l = (counted_failures l.output ≡ l._count) × (counted_inner l.output ≡ counted_inner l.fn.output)
