use Rattle.std.proofs.Common.{◌≡◌, sym}
use Rattle.std.specs.Cmp.Lexicographic.{same_text}
use Rattle.vp_bool.specs.Bools.{literal}
use Rattle.vp_bool.proofs.WritingLemmas.{Writes-then, Continues-then, Continues-given}
use Rattle.vp_head.specs.Probabilities.{luma_mode_probabilities}
use Rattle.vp_head.proofs.Mixed.{four_are, four_written}
use Rattle.vp_head.proofs.Signs.{yes_of}
use Rattle.vp_head.proofs.probability_writing.write_luma_if.Goals as goal

pub returns-then-not-asked : goal.returns-then-not-asked
returns-then-not-asked c = rw c.if-not-asked.true (Continues-given (sym (c.requires c.if-not-asked.true)) _)

pub returns-then-not-update : goal.returns-then-not-update
unfolding luma_mode_probabilities
returns-then-not-update c =
    let same : c.args.new.now ≡ c.args.old.now = same_text c.args.new.now c.args.old.now (yes_of _ c.if-not-update.ensures) in
    let w = rw c.if-not-update.true at c.in_ok-write.ensures.reads in
    rw c.if-not-asked.false (Writes-then _ w (Continues-given (sym same) _))

pub returns : goal.returns
unfolding luma_mode_probabilities
returns c =
    let w = rw c.if-not-update.false at c.in_ok-write.ensures.reads in
    rw c.if-not-asked.false
    (Writes-then _ w
    (Continues-then
    (four_written (λ i. literal 8) c.in_ok-literal.ensures.reads c.in_ok-literal-2.ensures.reads c.in_ok-literal-3.ensures.reads c.in_ok-literal-4.ensures.reads)
    (Continues-given (four_are c.args.new.now c.told-new) _)))
