-- Whether a frame is corrupt, by its facts.
use Rattle.std.proofs.Common.{[]}
use Rattle.vp_decode.proofs.Words.{◌≡◌, ℕ, List, ◌∷◌, refl, Option, Result, Ok, Err, Limits, PacketFault, DecoderState, ParsedPacket, parsed, corrupt, corrupt_in, is_frame_corrupt, facts_in, frame_facts}

is_frame_corrupt-facts_in : (r : Result ParsedPacket PacketFault) → is_frame_corrupt (facts_in r) ≡ corrupt_in r
is_frame_corrupt-facts_in (Err f) = refl
is_frame_corrupt-facts_in (Ok o) = refl

-- whether the frame is corrupt is among its facts
pub is_frame_corrupt-frame_facts : (limits : Limits) (state : Option DecoderState) (packet : List ℕ)
    → is_frame_corrupt (frame_facts limits state packet) ≡ corrupt limits state packet
unfolding frame_facts corrupt
is_frame_corrupt-frame_facts limits state [] = refl
is_frame_corrupt-frame_facts limits state (b ∷ bs) = is_frame_corrupt-facts_in (parsed limits state (b ∷ bs))
