-- Facts about the frame in a packet (RFC 6386, chapters 9.1, 9.6 and 9.7), which its tag and its header say, and
-- whether it is corrupt. Pinned by the tests `facts_of_frames`.
use Rattle.std.specs.Prelude.{◌≡◌, ◌⊎◌, ℕ, Bool, true, false, ◌||◌, List, [], ◌∷◌, Result, Ok, Err}
use Rattle.std.specs.Prelude.{Option, Some, None, is_some, IsSomeAnd, option_and_then}
use Rattle.vp_base.specs.Image.{Image}
use Rattle.vp_base.specs.declared.limits.Limits.{Limits}
use Rattle.vp_head.specs.declared.fields.KeyTag.{KeyTag}
use Rattle.vp_head.specs.declared.fault.PacketFault.{PacketFault}
use Rattle.vp_decode.specs.declared.frame_facts.FrameFacts.{FrameFacts}
use Rattle.vp_decode.specs.Step.{DecoderState, ParsedPacket, parsed}
use Rattle.vp_decode.specs.Corrupt.{is_corrupt}

-- the upscaling codes of a key frame (chapter 9.1); an inter frame has none: 0
abbrev pub horizontal_code : Option KeyTag → ℕ
horizontal_code None = 0
horizontal_code (Some key) = key.horizontal_scale

abbrev pub vertical_code : Option KeyTag → ℕ
vertical_code None = 0
vertical_code (Some key) = key.vertical_scale

-- the facts of a packet's frame, which is corrupt or not
abbrev pub facts_with : ParsedPacket → Bool → FrameFacts
facts_with o corrupt = record {
  key = is_some o.tag.key;
  version = o.tag.version;
  shown = o.tag.show;
  width = o.context.width;
  height = o.context.height;
  horizontal_scale = horizontal_code o.tag.key;
  vertical_scale = vertical_code o.tag.key;
  quantiser = o.header.quantiser.y_ac;
  refreshes_last = o.header.key || o.header.updates.refresh_last;
  refreshes_golden = o.header.key || o.header.updates.refresh_golden;
  refreshes_alt = o.header.key || o.header.updates.refresh_alt;
  corrupt = corrupt;
}

-- the facts of a packet's frame
abbrev pub facts_of : ParsedPacket → FrameFacts
facts_of o = facts_with o (is_corrupt o)

-- the facts of a parsed packet's frame; a packet with a fault has no frame
abbrev pub facts_in : Result ParsedPacket PacketFault → Option FrameFacts
facts_in (Err f) = None
facts_in (Ok o) = Some (facts_of o)

-- the facts of the frame in a packet that is decoded in this state; an empty packet has no frame
unfoldable pub frame_facts : Limits → Option DecoderState → List ℕ → Option FrameFacts
frame_facts limits state [] = None
frame_facts limits state (b ∷ bs) = facts_in (parsed limits state (b ∷ bs))

-- whether a frame is corrupt; without a frame it is not
abbrev pub is_frame_corrupt : Option FrameFacts → Bool
is_frame_corrupt None = false
is_frame_corrupt (Some f) = f.corrupt

-- ---- what the facts say of the states before and after the frame

-- p is a reference frame of the state before
abbrev pub IsOlder : Option DecoderState → Image → Type 0
IsOlder before p = IsSomeAnd before (λ k. (p ≡ k.references.last) ⊎ (p ≡ k.references.golden) ⊎ (p ≡ k.references.alt))

-- the last shown picture of the state before, which a key frame forgets
abbrev pub shown_before : Bool → Option DecoderState → Option Image
shown_before true before = None
shown_before false before = option_and_then (λ k. k.shown) before

-- The facts of a frame are those of the step from one state to the next: the size of the new picture; whether it is the
-- last shown one, or else which is; of each reference frame, whether it is the new picture, or else an older one. The
-- last frame is then that of the state before.
pub record AreFactsOfStep (f : FrameFacts) (before : Option DecoderState) (after : DecoderState) : Type 0 where
  pub width_is : after.references.newest.width ≡ f.width
  pub height_is : after.references.newest.height ≡ f.height
  pub shown : f.shown ≡ true → after.shown ≡ Some after.references.newest
  pub hidden : f.shown ≡ false → after.shown ≡ shown_before f.key before
  pub last : f.refreshes_last ≡ true → after.references.last ≡ after.references.newest
  pub golden : f.refreshes_golden ≡ true → after.references.golden ≡ after.references.newest
  pub alt : f.refreshes_alt ≡ true → after.references.alt ≡ after.references.newest
  pub last_stays : f.refreshes_last ≡ false → IsSomeAnd before (λ k. after.references.last ≡ k.references.last)
  pub older_golden : f.refreshes_golden ≡ false → IsOlder before after.references.golden
  pub older_alt : f.refreshes_alt ≡ false → IsOlder before after.references.alt
