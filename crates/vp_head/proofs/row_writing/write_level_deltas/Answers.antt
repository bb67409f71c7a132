use Rattle.std.proofs.Common.{sym}
use Rattle.vp_bool.proofs.WritingLemmas.{Writes-then, Continues-none, Continues-given}
use Rattle.vp_head.specs.Header.{level_deltas}
use Rattle.vp_head.proofs.row_writing.write_level_deltas.Goals as goal

pub returns-then-not-enabled : goal.returns-then-not-enabled
unfolding level_deltas
returns-then-not-enabled c =
    let off = c.if-not-enabled.true in
    let w = rw off at c.in_ok-write.ensures.reads in
    Writes-then _ w
    (Writes-then _ (Continues-none _ _)
    (Writes-then _ (Continues-none _ _) (Continues-given (λ i. (sym off i, sym (c.requires.off off) i)) _)))

pub returns : goal.returns
unfolding level_deltas
returns c =
    let on = c.if-not-enabled.false in
    let w = rw on at c.in_ok-write.ensures.reads in
    Writes-then _ w
    (Writes-then _ c.in_ok-write-2.ensures.reads
    (Writes-then _ (Writes-then _ c.in_ok-write_four_signed.ensures (Writes-then _ c.in_ok-write_four_signed-2.ensures (Continues-none _ _)))
    (Continues-given (λ i. (sym on i, c.args.deltas.now)) _)))
