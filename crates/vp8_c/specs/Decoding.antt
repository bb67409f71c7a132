-- The decoder of a handle: its limits, the effect of decoding a packet, and the pictures that it gives. Pinned by the
-- tests `a_packet_is_decoded`, `decoding_goes_on_after_damage`, `damage_is_told`, `facts_of_frames_are_written` and
-- `references_are_copied`.
use Rattle.std.specs.Prelude.{◌≡◌, ◌≢◌, ◌⊎◌, ◌<◌, ℕ, List, length, Option, Some, None, Result, Err, ok_or}
use Rattle.std.specs.Prelude.{Ok, Bool, option_and_then, option_map, ◌==◌, if◌then◌else◌}
use Rattle.vp_base.specs.Image.{Image}
use Rattle.vp_decode.specs.Step.{IsDecoded, after, outcome, step}
use Rattle.vp_decode.specs.Step.{Decoder as PacketDecoder}
use Rattle.vp_decode.specs.Keeping.{step_keeping}
use Rattle.vp_decode.specs.Corrupt.{corrupt}
use Rattle.vp_decode.specs.FrameFacts.{frame_facts, is_frame_corrupt}
use Rattle.vp_decode.specs.declared.frame_facts.FrameFacts.{FrameFacts}
use Rattle.vp_decode.specs.declared.decoder.OnFault.{OnFault}
use Rattle.vp_decode.specs.declared.decoder.OnFault.TheVariants as on_fault
use Rattle.vp_head.specs.declared.fields.Reference.{Reference}
use Rattle.vp_head.specs.declared.fields.Reference.TheVariants as reference_is
use Rattle.vp_refs.specs.References.{reference_picture}
use Rattle.vp8_c.specs.declared.status.TheConstants.{CLOSED, MEMORY, NO_PICTURE}
use Rattle.vp8_c.specs.declared.handle_value.HandleValue.{HandleValue}
use Rattle.vp8_c.specs.declared.decoder_handle.DecoderHandle.{DecoderHandle}
use Rattle.vp8_c.specs.declared.handle_value.HandleValue.TheVariants.{Decoder, Stream, Encoder}
use Rattle.vp8_c.specs.declared.handle.Handle.{Handle}
use Rattle.vp8_c.specs.Arguments.{Size, given_in, result_map, size_of}
use Rattle.vp8_c.specs.Handle.{handle_value_in}
use Rattle.vp8_c.specs.Status.{outcome_number}

-- the value is a decoder
abbrev pub decoder_of : HandleValue → Option PacketDecoder
decoder_of (Decoder d) = Some d.decoder
decoder_of (Stream s) = None
decoder_of (Encoder e) = None

-- the same with what is known of its last packet
abbrev pub handle_of : HandleValue → Option DecoderHandle
handle_of (Decoder d) = Some d
handle_of (Stream s) = None
handle_of (Encoder e) = None

-- the decoder of a handle, if it is one
abbrev pub decoder_in : Handle → Option PacketDecoder
decoder_in h = option_and_then decoder_of (handle_value_in h)

-- the picture that the decoder's last packet showed
abbrev pub last_picture : HandleValue → Result Image ℕ
last_picture (Decoder d) = ok_or d.decoder.shown NO_PICTURE
last_picture (Stream s) = Err CLOSED
last_picture (Encoder e) = Err CLOSED

-- the picture that the last packet showed, or the status of a call without one
abbrev pub handle_picture : Handle → Result Image ℕ
handle_picture h = given_in last_picture h

-- the size of that picture
abbrev pub shown_size_in : Handle → Result Size ℕ
shown_size_in h = result_map (λ p. size_of p.width p.height) (handle_picture h)

-- ---- references

-- the reference frame of a number: 1 is last, 2 golden, 3 altref
abbrev pub reference_of : ℕ → Option Reference
reference_of n =
    if n == 1 then Some reference_is.Last
    else if n == 2 then Some reference_is.Golden
    else if n == 3 then Some reference_is.Alt
    else None

-- the picture of a decoder's reference frame of this number, or the status of a call without one
abbrev pub reference_by : Option Reference → PacketDecoder → Result Image ℕ
reference_by None d = Err NO_PICTURE
reference_by (Some r) d = ok_or (option_map (λ k. reference_picture k.references r) d.state) NO_PICTURE

abbrev pub reference_of_value : ℕ → HandleValue → Result Image ℕ
reference_of_value n (Decoder d) = reference_by (reference_of n) d.decoder
reference_of_value n (Stream s) = Err CLOSED
reference_of_value n (Encoder e) = Err CLOSED

abbrev pub reference_in : ℕ → Handle → Result Image ℕ
reference_in n h = given_in (reference_of_value n) h

-- the size of the reference frames, which all have one size
abbrev pub reference_size_in : Handle → Result Size ℕ
reference_size_in h = result_map (λ p. size_of p.width p.height) (reference_in 1 h)

-- ---- the frame of the last packet

-- the facts about that frame: none before the first packet, after a fault and after an empty packet
abbrev pub last_frame : HandleValue → Result (Option FrameFacts) ℕ
last_frame (Decoder d) = Ok d.frame
last_frame (Stream s) = Err CLOSED
last_frame (Encoder e) = Err CLOSED

abbrev pub last_frame_in : Handle → Result (Option FrameFacts) ℕ
last_frame_in h = given_in last_frame h

-- After a packet is decoded, the value has the facts about its frame. If memory ran out, nothing changed.
pub record TellsFrame (packet : List ℕ) (status : ℕ) (before after : Result (Option FrameFacts) ℕ) (old : PacketDecoder)
    : Type 0 where
  pub told : status ≢ MEMORY → after ≡ Ok (frame_facts old.limits old.state packet)
  pub refused : status ≡ MEMORY → after ≡ before

-- ---- damage that no fault names

-- whether the decoder's last packet had a partition that was read past its end
abbrev pub corrupt_of : HandleValue → Result Bool ℕ
corrupt_of (Decoder d) = Ok (is_frame_corrupt d.frame)
corrupt_of (Stream s) = Err CLOSED
corrupt_of (Encoder e) = Err CLOSED

abbrev pub corrupt_in : Handle → Result Bool ℕ
corrupt_in h = given_in corrupt_of h

-- After a packet is decoded, the value tells whether its frame is corrupt. If memory ran out, nothing changed.
pub record TellsCorrupt (packet : List ℕ) (status : ℕ) (before after : Result Bool ℕ) (old : PacketDecoder)
    : Type 0 where
  pub told : status ≢ MEMORY → after ≡ Ok (corrupt old.limits old.state packet)
  pub refused : status ≡ MEMORY → after ≡ before

-- ---- decoding

-- a decoder without state; pictures of more pixels are refused
pub record IsFresh (pixels : ℕ) (d : PacketDecoder) : Type 0 where
  pub limit : d.limits.pixels ≡ pixels
  pub state : d.state ≡ None
  pub shown : d.shown ≡ None

-- an invalid limit on a picture's pixels
abbrev pub IsNoLimit : ℕ → Type 0
IsNoLimit pixels = (pixels ≡ 0) ⊎ (268402689 < pixels)

-- The packet is decoded: the status is that of its step, and the decoder is the one after the step. Or memory ran out,
-- for a packet that is not empty and has no fault, and nothing changed.
pub record Decodes (packet : List ℕ) (status : ℕ) (old new : PacketDecoder) : Type 0 where
  pub outcome_is : status ≢ MEMORY → status ≡ outcome_number (outcome (step old.limits old.state packet).1)
  pub after_is : status ≢ MEMORY → new ≡ after old (step old.limits old.state packet)
  pub refused : status ≡ MEMORY → new ≡ old
  pub late : status ≡ MEMORY → IsDecoded (step old.limits old.state packet).1
  pub dropped : status ≡ MEMORY → 0 < length packet

-- The packet is decoded, and a fault leaves the state: the status is that of its step, and the decoder is the one after
-- the step that keeps its state. Or memory ran out, for a packet that is not empty and has no fault. Then nothing
-- changed.
pub record DecodesKeeping (packet : List ℕ) (status : ℕ) (old new : PacketDecoder) : Type 0 where
  pub outcome_is : status ≢ MEMORY → status ≡ outcome_number (outcome (step old.limits old.state packet).1)
  pub after_is : status ≢ MEMORY → new ≡ after old (step_keeping old.limits old.state packet)
  pub refused : status ≡ MEMORY → new ≡ old
  pub late : status ≡ MEMORY → IsDecoded (step old.limits old.state packet).1
  pub dropped : status ≡ MEMORY → 0 < length packet

-- The decoder of a handle decodes the packet in one of these ways, and keeps the facts about its frame. If memory ran
-- out, what is known of the packet before it stays.
abbrev pub Steps : OnFault → List ℕ → ℕ → PacketDecoder → PacketDecoder → Type 0
Steps on_fault.Forget = Decodes
Steps on_fault.Keep = DecodesKeeping

pub record DecodesBy (way : OnFault) (packet : List ℕ) (status : ℕ) (old new : DecoderHandle) : Type 0 where
  pub steps : Steps way packet status old.decoder new.decoder
  pub told : status ≢ MEMORY → new.frame ≡ frame_facts old.decoder.limits old.decoder.state packet
  pub corrupt_is : status ≢ MEMORY → is_frame_corrupt new.frame ≡ corrupt old.decoder.limits old.decoder.state packet
  pub refused : status ≡ MEMORY → new.frame ≡ old.frame
