use Rattle.std.proofs.Common.{◌∙◌, ap}
use Rattle.vp_decode.proofs.SizeLemmas.{KeepsShape}
use Rattle.vp_encode.specs.Choice.{squared_distance}
use Rattle.vp_encode.proofs.EncoderLemmas.{frame_chosen, frame_rebuilt, frame_shows}
use Rattle.vp_encode.proofs.encoder.Encoder.encode_frame.Goals as goal

pub decode-requires-clause-shows : goal.decode-requires-clause-shows
decode-requires-clause-shows c =
    let shape = c.unfiltered_picture_solves_its_equation.ensures in
    let law : KeepsShape = record { size = shape.size; aligned = shape.aligned; whole = shape.whole } in
    let f = c.in_ok-chosen.ensures in
    rw c.as_slice.ensures (frame_shows _ _ _ _ f.allowed f.kept c.requires f.frame c.in_ok-packet.ensures.packet law)

pub decode-requires-clause-rebuilt : goal.decode-requires-clause-rebuilt
decode-requires-clause-rebuilt c =
    let f = c.in_ok-chosen.ensures in
    rw c.as_slice.ensures (frame_rebuilt _ _ _ _ f.allowed f.kept c.requires f.frame c.in_ok-packet.ensures.packet _ f.rebuilt)

pub returns-clause-encoded : goal.returns-clause-encoded
returns-clause-encoded c =
    let f = c.in_ok-chosen.ensures in
    let r = c.in_ok-recon.ensures in
    record {
      frame = record {
        chosen = frame_chosen _ _ _ _ f.allowed f.kept c.requires f.frame c.in_ok-packet.ensures.packet;
        decoded = rw (← c.as_slice.ensures) r.decoded;
        dim = r.dim;
        settings = r.settings;
        since = r.since ∙ c.next_since-since.ensures.value;
      };
      error = c.squared_distance-squared_error.ensures ∙ ap (squared_distance c.args.source.now) c.deref.ensures;
    }
