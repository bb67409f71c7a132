use Rattle.std.proofs.Common.{◌∙◌, sym, ap}
use Rattle.vp_encode.specs.Encoder.{EncoderState}
use Rattle.vp_encode.specs.Encoded.{initial_encoder}
use Rattle.vp_still.proofs.StillLemmas.{coded, long_part}
use Rattle.vp_still.proofs.still.encode.Goals as goal

pub returns-clause-frame : goal.returns-clause-frame
returns-clause-frame c =
    coded c.args.scale c.args.qi c.args.dim.w c.args.dim.h c.args.pixels.now c.in_ok-source.source c.size.result c.in-Ok.encoder c.key_frame.result
    c.size.ensures.width c.size.ensures.height c.in_ok-source.ensures.shown
    (c.in-Ok.ensures.ok ∙ ap (initial_encoder c.size.result) c.settings.ensures) c.key_frame.ensures.frame

pub returns-clause-too_long : goal.returns-clause-too_long
returns-clause-too_long c = λ long.
    let first = c.in-Ok.ensures.ok ∙ ap (initial_encoder c.size.result) c.settings.ensures in
    long_part c.args.scale c.args.qi c.args.dim.w c.args.dim.h c.args.pixels.now c.in_ok-source.source c.in-Ok.encoder
    (record {
      dim = c.size.result;
      width = c.size.ensures.width;
      height = c.size.ensures.height;
      shown = c.in_ok-source.ensures.shown;
      first = first;
    })
    (c.in_ok-source.ensures.width ∙ sym c.size.ensures.width ∙ ap (λ (x : EncoderState). x.dim.w) (sym first))
    (c.in_ok-source.ensures.height ∙ sym c.size.ensures.height ∙ ap (λ (x : EncoderState). x.dim.h) (sym first))
    (c.key_frame.ensures.too_long long)
