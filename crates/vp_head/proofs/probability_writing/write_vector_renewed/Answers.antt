use Rattle.std.proofs.Common.{◌≡◌, arith}
use Rattle.vp_bool.proofs.WritingLemmas.{Writes-then, Continues-given}
use Rattle.vp_head.specs.Probabilities.{vector_renewed}
use Rattle.vp_head.proofs.Halves.{halved}
use Rattle.vp_head.proofs.probability_writing.write_vector_renewed.Goals as goal

pub returns-then-new-old : goal.returns-then-new-old
unfolding vector_renewed
returns-then-new-old c =
    let e : c.args.old ≡ c.args.new = omega arith in
    Writes-then _ c.in_ok-write.ensures.reads (Continues-given e _)

pub returns : goal.returns
unfolding vector_renewed
returns c =
    Writes-then _ c.in_ok-write-2.ensures.reads (Writes-then _ c.in_ok-literal.ensures.reads (Continues-given (halved c.args.old c.args.new (c.requires (λ e. omega arith))) _))
