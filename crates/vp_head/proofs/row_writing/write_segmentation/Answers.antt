use Rattle.std.proofs.Common.{sym}
use Rattle.vp_bool.proofs.WritingLemmas.{Writes-then, Continues-none, Continues-given}
use Rattle.vp_head.specs.Header.{segmentation}
use Rattle.vp_head.proofs.Signs.{not_false, not_true}
use Rattle.vp_head.proofs.row_writing.write_segmentation.Goals as goal

pub write_segment_values_if-requires : goal.write_segment_values_if-requires
write_segment_values_if-requires c h = c.requires.on (c.are_same-update.ensures.no (not_true _ h))

pub returns-then-not-s : goal.returns-then-not-s
unfolding segmentation
returns-then-not-s c =
    let off = c.if-not-s.true in
    let kept = c.requires.off off in
    let w = rw off at c.in_ok-write.ensures.reads in
    Writes-then _ w
    (Writes-then _ (Continues-none _ _)
    (Writes-then _ (Continues-none _ _)
    (Writes-then _ (Continues-none _ _)
    (Writes-then _ (Continues-none _ _)
    (Continues-given (λ i. record { enabled = sym off i; update_map = sym kept.0 i; values = sym kept.1 i; tree_probabilities = sym (c.requires.no_map kept.0) i }) _)))))

pub returns : goal.returns
unfolding segmentation
returns c =
    let s = c.args.s.now in
    let w = rw c.if-not-s.false at c.in_ok-write.ensures.reads in
    Writes-then _ w
    (Writes-then _ c.in_ok-write-2.ensures.reads
    (Writes-then _ c.in_ok-write-3.ensures.reads
    (Writes-then _ (c.in_ok-write_segment_values_if.ensures c.args.kept.now (λ h. c.are_same-update.ensures.yes (not_false _ h)))
    (Writes-then _ c.in_ok-write_tree_probabilities_if.ensures
    (Continues-given (λ i. record s { enabled = sym c.if-not-s.false i }) _)))))
