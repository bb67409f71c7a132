use Rattle.std.proofs.Common.{◌∙◌, ◌<◌, ◌%◌, length, refl, arith}
use Rattle.std.proofs.lemmas.List.{get_or_default}
use Rattle.vp_bool.specs.Intervals.{whole_interval}
use Rattle.vp_encode.proofs.TokenLemmas.{frame_none, frame_next}
use Rattle.vp_encode.proofs.tokens.write_token_rows.Goals as goal

pub loop-row-init : goal.loop-row-init
loop-row-init c = record { wide = c.requires.columns; so_far = λ f plan. frame_none f c.args.coded.now c.args.contexts.now c.args.encoders.now plan c.requires.stands c.requires.empty }

pub loop-row-preserved : goal.loop-row-preserved
loop-row-preserved c =
    let es = c.loop-row.encoders in
    let k = c.loop-row.row % length es in
    let within : k < length es = omega (arith, c.loop-row.auto.encoders) in
    record {
      wide = c.in_ok-write_token_row.ensures.columns ∙ c.loop-row.invariant.wide;
      so_far = λ f plan.
          let made = c.loop-row.invariant.so_far f plan in
          frame_next f c.args.coded.now c.loop-row.row k c.loop-row.contexts c.write_token_row.new.contexts es _ c.write_token_row.new.e plan refl within
          (get_or_default es k c.index-encoders-at.result whole_interval within) made
          (c.in_ok-write_token_row.ensures.row f made.seen plan made.columns made.rows made.stands);
    }
