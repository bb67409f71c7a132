use Rattle.std.proofs.Common.{◌≡◌, true, false, nat_lt, arith, sym}
use Rattle.std.proofs.lemmas.Bool.{le-ltb, lt-ltb}
use Rattle.vp_bool.proofs.WritingLemmas.{Continues-given}
use Rattle.vp_motion.proofs.Bits.{implied}
use Rattle.vp_motion.proofs.writing.write_bit_3.Goals as goal

pub returns-in_ok-write_bit : goal.returns-in_ok-write_bit
returns-in_ok-write_bit c =
    let long : nat_lt 15 c.args.magnitude ≡ true = lt-ltb 15 c.args.magnitude (omega arith) in
    rw long c.in_ok-write_bit.ensures

pub returns-else-not-is_implied : goal.returns-else-not-is_implied
returns-else-not-is_implied c =
    let short : nat_lt 15 c.args.magnitude ≡ false = le-ltb 15 c.args.magnitude (omega arith) in
    rw short (Continues-given (sym (implied c.args.magnitude c.requires (omega arith))) _)
