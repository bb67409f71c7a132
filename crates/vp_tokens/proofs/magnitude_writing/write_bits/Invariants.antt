use Rattle.std.proofs.Common.{◌/◌, ◌-◌, ◌^◌, drop}
use Rattle.vp_bool.specs.Writing.{Continues}
use Rattle.vp_tokens.specs.Levels.{bits}
use Rattle.vp_tokens.proofs.magnitude_writing.write_bits.Given as goal

-- the bits so far were read, and those to come are left
abbrev pub invariant-loop-i : goal.invariant-loop-i
invariant-loop-i l = Continues (bits 0 l.probabilities) (bits (l.value / 2 ^ (l.n - l.i)) (drop l.i l.probabilities)) l.fn.e l.e
