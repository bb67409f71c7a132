use Rattle.std.proofs.Common.{◌≡◌, arith}
use Rattle.std.proofs.lemmas.Int.{ints}
use Rattle.vp_bool.proofs.WritingLemmas.{Writes-then, Continues-given}
use Rattle.vp_head.specs.Rows.{optional_signed, magnitude}
use Rattle.vp_head.proofs.Signs.{read, with_sign}
use Rattle.vp_head.proofs.row_writing.write_signed.Goals as goal

pub returns-then-value-otherwise : goal.returns-then-value-otherwise
unfolding optional_signed
returns-then-value-otherwise c =
    let e : c.args.otherwise ≡ c.args.value = omega (arith, ints) in
    Writes-then _ c.in_ok-write.ensures.reads (Continues-given e _)

pub returns : goal.returns
unfolding optional_signed magnitude
returns c =
    let same = read c.args.value c.ranges.value in
    Writes-then _ c.in_ok-write-2.ensures.reads
    (Writes-then _ c.in_ok-literal.ensures.reads
    (Writes-then _ c.in_ok-write-3.ensures.reads (Continues-given (rw (c.unsigned_abs.ensures.value, same) (with_sign c.args.value)) _)))
