use Rattle.vp_decode.proofs.Words.{Ok, Result, Err, IfOk, is_corrupt, frame_info_of}
use Rattle.vp_decode.proofs.SizeLemmas.{left-one_size}
use Rattle.vp_decode.proofs.decoded_frame.decode_frame.Goals as goal

always : {A E : Type 0} (r : Result A E) (X : Type 0) → X → IfOk r (λ _. X)
always (Ok v) X x = x
always (Err e) X x = tt

pub decode_picture-requires-clause-info : goal.decode_picture-requires-clause-info
unfolding frame_info_of
decode_picture-requires-clause-info g c = rw (← c.in_ok-macroblocks.ensures.maps) c.of-info.ensures

pub returns : goal.returns
unfolding is_corrupt
returns g c =
    let law = c.unfiltered_picture_solves_its_equation.ensures in
    let read = c.in_ok-macroblocks.ensures in
    let drawn = c.in_ok-picture.ensures in
    let made = c.frame_of_picture.ensures in
    record {
      segments = rw (← read.maps, ← c.in_ok-segments.ensures) made.segments;
      picture = rw (← drawn.picture) made.picture;
      shown = rw (← drawn.picture) made.shown;
      one_size =
          always c.frame_of_picture.result _
          (left-one_size (record { size = law.size; aligned = law.aligned; whole = law.whole }) c.args.parsed.now (rw (← c.parsed.view_is) c.parsed.invariant.0));
      corrupt = λ given. rw (← drawn.past given, ← read.past) made.corrupt;
    }
