use Rattle.std.proofs.Common.{◌≡◌, ◌∙◌, ℕ, Some, None, Ok, Err, refl, sym, ap}
use Rattle.std.specs.Prelude.{Bool, Option, Result}
use Rattle.vp_decode.specs.declared.frame_facts.FrameFacts.{FrameFacts}
use Rattle.vp8_c.specs.declared.handle_value.HandleValue.TheVariants.{Decoder, Stream, Encoder}
use Rattle.vp8_c.specs.declared.packet.FrameInfo.{FrameInfo}
use Rattle.vp8_c.specs.Arguments.{given_of, result_map}
use Rattle.vp8_c.specs.Decoding.{last_frame}
use Rattle.vp8_c.specs.Packets.{flag, frame_of_value, told_frame}
use Rattle.vp8_c.specs.Slot.{MaybeHandleValue}
use Rattle.vp8_c.proofs.laws.the_last_packet_is_told.Goals as goal

-- what is told of a frame, by what a handle's value knows of it
told_by : Result (Option FrameFacts) ℕ → Result FrameInfo ℕ
told_by (Ok f) = told_frame f
told_by (Err e) = Err e

told_is : (h : MaybeHandleValue) → given_of frame_of_value h ≡ told_by (given_of last_frame h)
unfolding told_by
told_is None = refl
told_is (Some (Decoder d)) = refl
told_is (Some (Stream s)) = refl
told_is (Some (Encoder e)) = refl

pub returns-clause-frame : goal.returns-clause-frame
unfolding told_by
returns-clause-frame c packet status old new d t other = told_is new.slot.held ∙ ap told_by (t.told other)

pub returns-clause-frame_stays : goal.returns-clause-frame_stays
returns-clause-frame_stays c packet status old new d t same = told_is new.slot.held ∙ ap told_by (t.refused same) ∙ sym (told_is old.slot.held)

pub returns-clause-corrupt : goal.returns-clause-corrupt
returns-clause-corrupt c packet status old new d t other = ap (λ (r : Result Bool ℕ). result_map flag r) (t.told other)

pub returns-clause-corrupt_stays : goal.returns-clause-corrupt_stays
returns-clause-corrupt_stays c packet status old new d t same = ap (λ (r : Result Bool ℕ). result_map flag r) (t.refused same)
