use Rattle.std.proofs.Common.{◌≡◌, ◌∙◌, true, false, sym, ap}
use Rattle.vp_head.specs.Reference.{is_intra}
use Rattle.vp_decode.specs.Step.{key_context}
use Rattle.vp_encoder_tests.proofs.FlatFrames.{flat_told}
use Rattle.vp_encoder_tests.proofs.encoding.chessboard_packet.Goals as goal

pub write_key_packet-requires-clause-told : goal.write_key_packet-requires-clause-told
write_key_packet-requires-clause-told c =
    let f = c.chessboard.ensures in
    let before = (key_context c.args.dim).modes in
    flat_told _ _ true before c.header.result c.chessboard.result _ c.in_ok-macroblocks.ensures c.header.ensures.spelled
    (λ p inside below. f.spelled c.header.result before p c.header.ensures.spelled.kind c.header.ensures.skip) f.none (λ away. absurd (let never : true ≡ false = ap is_intra (sym f.reference) ∙ away in cc))
