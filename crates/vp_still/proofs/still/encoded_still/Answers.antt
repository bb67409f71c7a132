use Rattle.std.proofs.Common.{◌≡◌, inl, inr}
use Rattle.vp_webp.specs.declared.fault.WebPWriteFault.TheVariants.{NotKey, Hidden}
use Rattle.vp_still.proofs.StillLemmas.{no_file}
use Rattle.vp_still.proofs.still.encoded_still.Goals as goal

pub unreachable-requires : goal.unreachable-requires
unreachable-requires c =
    let is : c.in-Err-NotKey.field-0 ≡ NotKey = c.in-Err-NotKey.field-0-is in
    elim (no_file c.args.scale c.args.qi c.args.dim.w c.args.dim.h c.args.pixels.now c.in_ok-frame.frame.packet c.as_slice.result.now c.in_ok-frame.frame.squared_error c.in-Err-NotKey.field-0
    c.in_ok-frame.ensures.frame c.as_slice.ensures c.in-Err-NotKey.ensures.refused) [
      | inl e ↦ absurd cc
      | inr e ↦ absurd cc
    ]

pub unreachable-requires-in-Err-Hidden : goal.unreachable-requires-in-Err-Hidden
unreachable-requires-in-Err-Hidden c =
    let is : c.in-Err-Hidden.field-0 ≡ Hidden = c.in-Err-Hidden.field-0-is in
    elim (no_file c.args.scale c.args.qi c.args.dim.w c.args.dim.h c.args.pixels.now c.in_ok-frame.frame.packet c.as_slice.result.now c.in_ok-frame.frame.squared_error c.in-Err-Hidden.field-0
    c.in_ok-frame.ensures.frame c.as_slice.ensures c.in-Err-Hidden.ensures.refused) [
      | inl e ↦ absurd cc
      | inr e ↦ absurd cc
    ]
