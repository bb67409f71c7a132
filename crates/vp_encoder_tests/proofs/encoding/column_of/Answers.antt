use Rattle.std.proofs.Common.{◌≡◌, ◌∙◌, true, false, refl, sym, ap}
use Rattle.vp_head.specs.Reference.{is_intra}
use Rattle.vp_encoder_tests.proofs.FlatFrames.{flat_told}
use Rattle.vp_encoder_tests.proofs.encoding.column_of.Goals as goal

pub returns-clause-told : goal.returns-clause-told
returns-clause-told c before =
    let f = c.macroblock.ensures in
    flat_told 1 c.args.rows true before c.header.result c.macroblock.result _ c.in_ok-macroblocks.ensures c.header.ensures.spelled
    (λ p inside below. f.intra refl c.header.result before p c.header.ensures.spelled.kind c.header.ensures.skip) f.none (λ away. absurd (let never : true ≡ false = ap is_intra (sym f.reference) ∙ away in cc))
