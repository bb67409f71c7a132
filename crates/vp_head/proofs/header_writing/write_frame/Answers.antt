use Rattle.std.proofs.Common.{false, sym}
use Rattle.vp_bool.proofs.WritingLemmas.{Writes-then, Continues-given}
use Rattle.vp_head.specs.Header.{frame}
use Rattle.vp_head.proofs.Signs.{not_false, not_true}
use Rattle.vp_head.proofs.header_writing.write_frame.Goals as goal

pub write_reference_probabilities_if-requires : goal.write_reference_probabilities_if-requires
write_reference_probabilities_if-requires c h = c.requires.references (not_false c.args.key h)

pub write_luma_if-requires : goal.write_luma_if-requires
write_luma_if-requires c h = c.requires.luma (not_false c.args.key h)

pub write_chroma_if-requires : goal.write_chroma_if-requires
write_chroma_if-requires c h = c.requires.chroma (not_false c.args.key h)

pub write_vectors_if-requires-clause-kept : goal.write_vectors_if-requires-clause-kept
write_vectors_if-requires-clause-kept c h = c.requires.vectors (not_false c.args.key h)

pub write_vectors_if-requires-clause-spelled : goal.write_vectors_if-requires-clause-spelled
write_vectors_if-requires-clause-spelled c h = c.requires.vector (not_true c.args.key h)

pub returns : goal.returns
unfolding frame
returns c =
    let r = c.requires in
    let h = c.args.h.now in
    Writes-then _ (c.in_ok-write_flag_if.ensures false r.color_space)
    (Writes-then _ (c.in_ok-write_flag_if-2.ensures false r.clamping_type)
    (Writes-then _ c.in_ok-write_segmentation.ensures
    (Writes-then _ c.in_ok-write_filter.ensures
    (Writes-then _ c.in_ok-write_level_deltas.ensures
    (Writes-then _ c.in_ok-literal.ensures.reads
    (Writes-then _ c.in_ok-write_quantiser_indices.ensures
    (Writes-then _ (c.in_ok-write_refreshes.ensures c.args.kept.now.biases r.biases)
    (Writes-then _ c.in_ok-write_coefficients.ensures
    (Writes-then _ c.in_ok-write_skip.ensures
    (Writes-then _ c.in_ok-write_reference_probabilities_if.ensures
    (Writes-then _ c.in_ok-write_luma_if.ensures
    (Writes-then _ c.in_ok-write_chroma_if.ensures
    (Writes-then _ c.in_ok-write_vectors_if.ensures (Continues-given (λ i. record h { key = sym r.kind i }) _))))))))))))))
