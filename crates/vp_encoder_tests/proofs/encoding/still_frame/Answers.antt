use Rattle.vp_base.specs.Grid.{all}
use Rattle.vp_modes.specs.Map.{of_segments}
use Rattle.std.proofs.Common.{◌≡◌, false, refl}
use Rattle.vp_encoder_tests.proofs.FlatFrames.{flat_told, zero_segment}
use Rattle.vp_encoder_tests.proofs.encoding.still_frame.Goals as goal

pub returns-clause-told : goal.returns-clause-told
returns-clause-told c =
    let f = c.macroblock.ensures in
    flat_told 1 1 false (of_segments (all 1 1 0)) c.header.result c.macroblock.result _ c.in_ok-macroblocks.ensures c.header.ensures.spelled
    (λ p inside below. f.inter refl refl c.header.result (of_segments (all 1 1 0)) p c.header.ensures.spelled.kind c.header.ensures.skip (zero_segment p inside below)) f.none (λ away. f.still)
