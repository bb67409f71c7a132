-- The encoder's settings and state, the kind and header of the next frame, and the source padded to whole macroblocks.
-- RFC 6386, chapter 9, leaves these choices open. Pinned by the tests `encode_flat_key`, `encode_flat_inter` and
-- `source_is_continued`.
use Rattle.std.specs.Prelude.{◌≡◌, ◌<◌, ◌≤◌, ◌⊎◌, ℕ, ◌+◌, ◌-◌, ◌/◌, ◌%◌, ◌==◌, ◌&&◌, min, pos, not, Bool, true, false}
use Rattle.std.specs.Prelude.{Option, Some, None, ◌∷◌, [], is_none, if◌then◌else◌}
use Rattle.vp_base.specs.declared.limits.Dim.{Dim}
use Rattle.vp_base.specs.Raster.{Raster, pixel}
use Rattle.vp_base.specs.Block.{numbers}
use Rattle.vp_base.specs.Image.{Image}
use Rattle.vp_head.specs.declared.fields.Header.{Header}
use Rattle.vp_head.specs.declared.fields.KeyTag.{KeyTag}
use Rattle.vp_head.specs.declared.fields.Saved.{Saved}
use Rattle.vp_head.specs.declared.fields.Segmentation.{Segmentation}
use Rattle.vp_head.specs.declared.fields.QuantiserIndices.{QuantiserIndices}
use Rattle.vp_head.specs.declared.fields.ReferenceUpdates.{ReferenceUpdates}
use Rattle.vp_head.specs.declared.fields.ReferenceProbabilities.{ReferenceProbabilities}
use Rattle.vp_head.specs.declared.fields.ReferenceCopy.TheVariants.{Nothing}
use Rattle.vp_head.specs.Header.{no_references}
use Rattle.vp_quant.specs.Quant.{factors}
use Rattle.vp_choose.specs.Frame.{FrameSearch, Search, no_biases}
use Rattle.vp_decode.specs.Step.{DecoderState, FrameContext, key_context, inter_context}
use Rattle.vp_encode.specs.declared.settings.Settings.{Settings}
use Rattle.vp_encode.specs.PacketContents.{key_tag}

-- the settings are in their ranges
pub record AreAllowed (s : Settings) : Type 0 where
  pub quantiser : s.qi ≤ 127
  pub level : s.level ≤ 63
  pub sharpness : s.sharpness ≤ 7
  pub key_every : 0 < s.key_every
  pub range : s.range ≤ 64
  pub partitions : (s.partitions ≡ 1) ⊎ (s.partitions ≡ 2) ⊎ (s.partitions ≡ 4) ⊎ (s.partitions ≡ 8)

-- An encoder between frames. `state` is the decoder's state after its packets: none before the first frame and after a
-- refused one. `since` is the number of frames since the last key frame, including that one.
pub record EncoderState : Type 0 where
  pub dim : Dim
  pub settings : Settings
  pub state : Option DecoderState
  pub since : ℕ

-- ---- the kind of the next frame

-- the state that the next frame is coded with: none for a key frame; that is every `key_every`th frame, and any frame
-- without a state
abbrev pub kept_for : EncoderState → Option DecoderState
kept_for e = if e.since == e.settings.key_every then None else e.state

-- the next frame is a key frame
abbrev pub next_is_key : EncoderState → Bool
next_is_key e = is_none (kept_for e)

-- an inter frame refreshes golden if its distance from the key frame is a multiple of `golden_every`
abbrev pub refreshes_golden : EncoderState → Bool
refreshes_golden e = not (e.settings.golden_every == 0) && e.since % e.settings.golden_every == 0

-- ---- the context that the next frame is decoded in

-- the context of a frame that is coded with this state
abbrev pub context_over : Dim → Option DecoderState → FrameContext
context_over dim None = key_context dim
context_over dim (Some k) = inter_context k

-- the context of the next frame
abbrev pub context_for : EncoderState → FrameContext
context_for e = context_over e.dim (kept_for e)

-- the key part of the tag of a frame that is coded with this state
abbrev pub tag_key : Dim → Option DecoderState → Option KeyTag
tag_key dim None = Some (key_tag dim)
tag_key dim (Some k) = None

-- ---- its header (RFC 6386, chapter 9)

-- no segments
abbrev pub no_segmentation : Saved → Segmentation
no_segmentation saved = record {
  enabled = false;
  update_map = false;
  values = saved.segments;
  tree_probabilities = 255 ∷ 255 ∷ 255 ∷ [];
}

-- all factors use one index
abbrev pub quantiser : ℕ → QuantiserIndices
quantiser index = record { y_ac = index; y_dc = pos 0; y2_dc = pos 0; y2_ac = pos 0; uv_dc = pos 0; uv_ac = pos 0 }

-- a key frame refreshes all references; an inter frame refreshes last, and golden at intervals
abbrev pub updates : Bool → Bool → ReferenceUpdates
updates key golden = record {
  refresh_golden = if key then true else golden;
  refresh_alt = key;
  copy_to_golden = Nothing;
  copy_to_alt = Nothing;
  refresh_last = true;
}

-- even probabilities for the reference frames
abbrev pub even : ReferenceProbabilities
even = record { intra = 128; last = 128; golden = 128 }

-- the logarithm of a number of partitions: 1, 2, 4 or 8
abbrev pub log2_of : ℕ → ℕ
log2_of partitions = if partitions == 1 then 0 else if partitions == 2 then 1 else if partitions == 4 then 2 else 3

-- the header of a frame that is coded relative to these saved values
abbrev pub header_over : Saved → Bool → Bool → Settings → Header
header_over saved key golden s = record {
  key = key;
  color_space = false;
  clamping_type = false;
  segmentation = no_segmentation saved;
  filter = record { simple = s.simple; level = s.level; sharpness = s.sharpness };
  deltas_enabled = false;
  deltas = saved.deltas;
  log2_partitions = log2_of s.partitions;
  quantiser = quantiser s.qi;
  updates = updates key golden;
  biases = no_biases;
  refresh_entropy = true;
  probabilities = saved.probabilities;
  skip = Some 128;
  references = if key then no_references else even;
}

-- the header of the next frame
abbrev pub header_of : EncoderState → Header
header_of e = header_over (context_for e).saved (next_is_key e) (refreshes_golden e) e.settings

-- ---- the inputs of the choice for its macroblocks

-- a plane with width by height pixels of the source, padded by the nearest of them
abbrev pub continued_plane : ℕ → ℕ → Raster → Raster
continued_plane width height p = record p {
  pixels = numbers p.width p.height (λ x y. pixel p (min x (width - 1)) (min y (height - 1)));
}

-- the source padded to whole macroblocks; chroma planes have half the width and height, rounded up
unfoldable pub continued : Image → Image
continued p = record p {
  luma = continued_plane p.width p.height p.luma;
  u = continued_plane ((p.width + 1) / 2) ((p.height + 1) / 2) p.u;
  v = continued_plane ((p.width + 1) / 2) ((p.height + 1) / 2) p.v;
}

-- a key frame has no search; golden is searched if it is ever refreshed
abbrev pub search_in : Settings → Option DecoderState → Option Search
search_in s None = None
search_in s (Some k) = Some (record {
  references = k.references;
  golden = not (s.golden_every == 0);
  range = s.range;
  subpel = s.subpel;
})

-- the inputs of the choice for a frame that is coded with this state
abbrev pub frame_over : Option DecoderState → Settings → Image → FrameSearch
frame_over kept s source = record {
  source = continued source;
  factors = factors s.qi (quantiser s.qi);
  search = search_in s kept;
}

-- the inputs of the choice for the next frame
abbrev pub frame_for : EncoderState → Image → FrameSearch
frame_for e source = frame_over (kept_for e) e.settings source
