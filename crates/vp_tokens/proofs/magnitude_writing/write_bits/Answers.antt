use Rattle.std.proofs.Common.{◌≡◌, ◌+◌, ◌-◌, ◌/◌, ◌^◌, suc, length, arith}
use Rattle.std.proofs.Math.Nat.{sub-zero, div-eq_of_lt}
use Rattle.vp_bool.proofs.WritingLemmas.{Continues-none, Continues-then}
use Rattle.vp_tokens.proofs.WritingLemmas.{next_bit, bits_written, bits_end}
use Rattle.vp_tokens.proofs.magnitude_writing.write_bits.Goals as goal

pub loop-i-init : goal.loop-i-init
loop-i-init c =
    let none : c.args.value / 2 ^ (length c.args.probabilities.now - 0) ≡ 0 = rw sub-zero (div-eq_of_lt c.requires.fits) in
    rw none (Continues-none _ _)

pub loop-i-preserved : goal.loop-i-preserved
loop-i-preserved c =
    let n = length c.args.probabilities.now in
    let k : n - c.loop-i.i ≡ suc (n - 1 - c.loop-i.i) = omega arith in
    let same : n - (c.loop-i.i + 1) ≡ n - 1 - c.loop-i.i = omega arith in
    let next = next_bit c.args.value (n - 1 - c.loop-i.i) in
    let w = bits_written (c.args.value / 2 ^ (n - c.loop-i.i)) c.loop-i.i c.args.probabilities.now _ c.loop-i-test.true c.in_ok-write.ensures.reads in
    let w' = rw (k, next) at w in
    Continues-then c.loop-i.invariant (rw (same, k) w')

pub returns : goal.returns
returns c =
    let n = length c.args.probabilities.now in
    let all : n - c.loop-i.i ≡ 0 = omega arith in
    Continues-then c.loop-i.invariant (bits_end _ _ c.loop-i.i c.args.probabilities.now _ c.loop-i-test.false (rw all (omega arith)))
