use Rattle.vp_bool.proofs.WritingLemmas.{Writes-then, Continues-given}
use Rattle.vp_motion.specs.Pieces.{long_bits}
use Rattle.vp_motion.proofs.Bits.{all_bits, others_long}
use Rattle.vp_motion.proofs.writing.write_long.Goals as goal

pub returns : goal.returns
unfolding long_bits
returns c =
    let n = c.args.magnitude in
    let last = rw (← others_long n c.requires.least c.requires.most) at c.in_ok-write_bit_3.ensures in
    Writes-then _ c.in_ok-write_bit.ensures
    (Writes-then _ c.in_ok-write_bit-2.ensures
    (Writes-then _ c.in_ok-write_bit-3.ensures
    (Writes-then _ c.in_ok-write_bit-4.ensures
    (Writes-then _ c.in_ok-write_bit-5.ensures
    (Writes-then _ c.in_ok-write_bit-6.ensures
    (Writes-then _ c.in_ok-write_bit-7.ensures
    (Writes-then _ c.in_ok-write_bit-8.ensures
    (Writes-then _ c.in_ok-write_bit-9.ensures
    (Writes-then _ last
    (Continues-given (all_bits n c.requires.most) _))))))))))
