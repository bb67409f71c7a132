-- The key frame of a picture.
use Rattle.std.proofs.Common.{◌≡◌, ◌∙◌, ℕ, ◌+◌, ◌-◌, ◌*◌, ◌/◌, ◌%◌, ◌^◌, ◌≤◌, ◌==◌, ◌&&◌, ◌⊎◌, Bool, true, false, nat_lt, nat_le, List, length, if◌then◌else◌, Some, None, Ok, Err, subst, refl, sym, ap, arith, inl, inr, not}
use Rattle.std.specs.Prelude.{Result, IfOk, slice_index}
use Rattle.std.proofs.lemmas.Bool.{ltb-false}
use Rattle.std.proofs.lemmas.Bool.Decides.{nat_tests}
use Rattle.vp_base.specs.declared.limits.Dim.{Dim}
use Rattle.vp_base.specs.declared.limits.Limits.{Limits}
use Rattle.vp_base.specs.Image.{Image, i420}
use Rattle.vp_head.specs.declared.fields.Tag.{Tag}
use Rattle.vp_head.specs.declared.fields.KeyTag.{KeyTag}
use Rattle.vp_head.specs.declared.fault.PacketFault.{PacketFault}
use Rattle.vp_head.specs.declared.fault.PacketFault.TheVariants.{Truncated, Version}
use Rattle.vp_head.specs.Tag.{IsKeyPacket, bit_field, tag_word, tag_with, tag_with_key, key_of, tag_of, tag_of_word}
use Rattle.vp_webp.specs.WebP.{is_key_packet, is_shown_packet}
use Rattle.vp_webp.specs.Text.{riff_size, webp_refusal}
use Rattle.vp_webp.specs.declared.fault.WebPWriteFault.{WebPWriteFault}
use Rattle.vp_webp.specs.declared.fault.WebPWriteFault.TheVariants.{NotKey, Hidden, TooLong, Device}
use Rattle.vp_decode.specs.Step.{Shown, step}
use Rattle.vp_decode.proofs.CutLemmas.{IsOpened, opened-is}
use Rattle.vp_scale.specs.declared.scale.Scale.{Scale}
use Rattle.vp_scale.specs.Scale.{factor_of, scaled_side}
use Rattle.vp_scale.specs.Means.{scaled_i420}
use Rattle.vp_encode.specs.declared.encoder.Encoded.{Encoded}
use Rattle.vp_encode.specs.Encoder.{EncoderState, AreAllowed, next_is_key}
use Rattle.vp_encode.specs.Encoded.{IsEncoded, initial_encoder}
use Rattle.vp_encode.specs.Choice.{IsChosen, squared_distance}
use Rattle.vp_encode.specs.PacketContents.{key_tag}
use Rattle.vp_encode.specs.TooLong.{IsTooLong}
use Rattle.vp_still.specs.declared.fault.StillFault.{StillFault}
use Rattle.vp_still.specs.Still.{still_settings, IsKeyFrameFor}
use Rattle.vp_still.specs.TooLong.{HasLongPart}
use Rattle.vp_still.specs.Smaller.{IsSmaller}

pub allowed : (qi : ℕ) → qi ≤ 127 → AreAllowed (still_settings qi)
allowed qi low = record {
  quantiser = low;
  level = omega arith;
  sharpness = omega arith;
  key_every = omega arith;
  range = omega arith;
  partitions = inl refl;
}

pub key_frame : (source : Image) (e next : EncoderState) (r : Encoded) → source.width ≡ e.dim.w → source.height ≡ e.dim.h
    → ((limits : Limits) → e.dim.w * e.dim.h ≤ limits.pixels → step limits e.state r.packet ≡ (next.state, Shown r.recon.value))
    → IsChosen e source r.packet → r.squared_error ≡ squared_distance source r.recon.value → next.dim ≡ e.dim → next.settings ≡ e.settings
    → next.since ≡ (if next_is_key e then 1 else e.since + 1)
    → (scale : Scale) (qi w h : ℕ) (pixels : List ℕ) → IsSmaller scale qi w h pixels source e
    → IsKeyFrameFor scale qi w h pixels r.packet r.squared_error
key_frame source e next r wide high decoded chosen error same settings since scale qi w h pixels s = record {
  dim = s.dim;
  width = s.width;
  height = s.height;
  frame = record { source = source; packet = r.packet; recon = r.recon.value };
  source_width = wide ∙ ap (λ (x : EncoderState). x.dim.w) s.first;
  source_height = high ∙ ap (λ (x : EncoderState). x.dim.h) s.first;
  source = s.shown;
  next = next;
  encoded = subst (λ (x : EncoderState). IsEncoded x (record { source = source; packet = r.packet; recon = r.recon.value }) next) s.first (record {
    chosen = chosen;
    decoded = decoded;
    dim = same;
    settings = settings;
    since = since;
  });
  packet_is = refl;
  error_is = error;
}

-- the first frame of a new encoder, for the picture that is made smaller
pub coded : (scale : Scale) (qi w h : ℕ) (pixels : List ℕ) (source : Image) (dim : Dim) (e : EncoderState) (r : Result Encoded StillFault)
    → dim.w ≡ scaled_side (factor_of scale) w → dim.h ≡ scaled_side (factor_of scale) h
    → i420 source ≡ scaled_i420 (factor_of scale) w h pixels → e ≡ initial_encoder dim (still_settings qi)
    → IfOk r (λ f. (scale : Scale) (qi w h : ℕ) (pixels : List ℕ) → IsSmaller scale qi w h pixels source e
    → IsKeyFrameFor scale qi w h pixels f.packet f.squared_error)
    → IfOk r (λ f. IsKeyFrameFor scale qi w h pixels f.packet f.squared_error)
coded scale qi w h pixels source dim e (Ok f) wide high shown first for_each =
    for_each scale qi w h pixels (record { dim = dim; width = wide; height = high; shown = shown; first = first })
coded scale qi w h pixels source dim e (Err fault) wide high shown first for_each = for_each

-- ---- a frame whose part is too long

pub long_part : (scale : Scale) (qi w h : ℕ) (pixels : List ℕ) (source : Image) (e : EncoderState) → IsSmaller scale qi w h pixels source e
    → source.width ≡ e.dim.w → source.height ≡ e.dim.h → IsTooLong e source → HasLongPart scale qi w h pixels
long_part scale qi w h pixels source e s wide high long = record {
  dim = s.dim;
  width = s.width;
  height = s.height;
  source = source;
  source_width = wide ∙ ap (λ (x : EncoderState). x.dim.w) s.first;
  source_height = high ∙ ap (λ (x : EncoderState). x.dim.h) s.first;
  shown = s.shown;
  long = subst (λ (x : EncoderState). IsTooLong x source) s.first long;
}

-- ---- the packet of a frame is a shown key packet

-- limits that allow every size
widest : Limits
widest = record {
  pixels = 268402689;
  packet_bytes = 1;
  packets = 1;
  cache = 1;
  pixels_in_range = (omega arith, omega arith);
  packet_bytes_in_range = (omega arith, omega arith);
  packets_in_range = (omega arith, omega arith);
  cache_in_range = (omega arith, omega arith);
}

product : (w h : ℕ) → w ≤ 16383 → h ≤ 16383 → w * h ≤ 268402689
product w h a b = grind arith

-- the tests of a tag that was read
by_tests : (few bad even : Bool) (word : ℕ) (key : Result KeyTag PacketFault) (tag : Tag) (k : KeyTag)
    → (if few then Err Truncated else (if bad then Err Version else (if even then tag_with_key word key else Ok (tag_with word None)))) ≡ Ok tag
    → tag.key ≡ Some k → (few ≡ false) × (even ≡ true) × (tag.show ≡ (bit_field 4 1 word == 1))
by_tests true bad even word key tag k e has = absurd cc
by_tests false true even word key tag k e has = absurd cc
by_tests false false true word (Err fault) tag k e has = absurd cc
by_tests false false true word (Ok key) tag k e has = (refl, refl, cc)
by_tests false false false word key tag k e has = absurd cc

even_first : (a b c : ℕ) → (a + 256 * b + 65536 * c) / 2 ^ 0 % 2 ^ 1 ≡ a % 2
even_first a b c = omega arith

shown_first : (a b c : ℕ) → (a + 256 * b + 65536 * c) / 2 ^ 4 % 2 ^ 1 ≡ a / 2 ^ 4 % 2 ^ 1
shown_first a b c = omega arith

both : (n m : ℕ) → 3 ≤ n → (m == 0) ≡ true → (nat_le 3 n && m == 0) ≡ true
both n m a b = grind (arith, nat_tests)

-- a packet with a tag that has a key part, and is shown
key_and_shown : (limits : Limits) (packet : List ℕ) (tag : Tag) (k : KeyTag) → tag_of limits packet ≡ Ok tag → tag.key ≡ Some k → tag.show ≡ true
    → (is_key_packet packet ≡ true) × (is_shown_packet packet ≡ true)
unfolding tag_of tag_of_word
key_and_shown limits packet tag k e has shows =
    let word = tag_word packet in
    let t = by_tests (nat_lt (length packet) 3) (nat_lt 3 (bit_field 1 3 word)) (bit_field 0 1 word == 0) word (key_of limits packet) tag k e has in
    let a = slice_index packet 0 in
    let b = slice_index packet 1 in
    let c = slice_index packet 2 in (
      both (length packet) (a % 2) (ltb-false (length packet) 3 t.0) (ap (λ (n : ℕ). n == 0) (sym (even_first a b c)) ∙ t.1),
      ap (λ (n : ℕ). n == 1) (sym (shown_first a b c)) ∙ (sym t.2 ∙ shows),
    )

pub is_key_shown : (scale : Scale) (qi w h : ℕ) (pixels packet : List ℕ) (error : ℕ) → IsKeyFrameFor scale qi w h pixels packet error
    → (is_key_packet packet ≡ true) × (is_shown_packet packet ≡ true)
unfolding widest
is_key_shown scale qi w h pixels packet error k =
    let chosen = k.encoded.chosen in
    let fits : k.dim.w * k.dim.h ≤ 268402689 = product k.dim.w k.dim.h k.dim.w_in_range.1 k.dim.h_in_range.1 in
    let opened : IsOpened widest None k.frame.packet chosen.opening = opened-is widest None k.frame.packet chosen.opening (chosen.opens widest fits) in
    subst (λ (p : List ℕ). (is_key_packet p ≡ true) × (is_shown_packet p ≡ true)) (sym k.packet_is)
    (key_and_shown widest k.frame.packet chosen.opening.tag (key_tag k.dim) opened.tag_is chosen.key chosen.shown)

pub key_numbers : (packet : List ℕ) → is_key_packet packet ≡ true → IsKeyPacket packet
key_numbers packet e = grind (arith, nat_tests, e)

-- ---- why it has no file

refused_by : (key shown long : Bool) (fault : WebPWriteFault) → key ≡ true → shown ≡ true
    → (if not key then Some NotKey else (if not shown then Some Hidden else (if long then Some TooLong else None))) ≡ Some fault → fault ≡ TooLong
refused_by false shown long fault k s e = absurd cc
refused_by true false long fault k s e = absurd cc
refused_by true true true fault k s e = cc
refused_by true true false fault k s e = absurd cc

-- the packet is too long, or a write failed
pub no_file : (scale : Scale) (qi w h : ℕ) (pixels packet bytes : List ℕ) (error : ℕ) (fault : WebPWriteFault) → IsKeyFrameFor scale qi w h pixels packet error
    → bytes ≡ packet → (fault ≡ Device) ⊎ (webp_refusal bytes ≡ Some fault) → (fault ≡ Device) ⊎ (fault ≡ TooLong)
no_file scale qi w h pixels packet bytes error fault k same (inl e) = inl e
no_file scale qi w h pixels packet bytes error fault k same (inr e) =
    let is = is_key_shown scale qi w h pixels packet error k in
    inr (refused_by (is_key_packet packet) (is_shown_packet packet) (nat_lt (2 ^ 32 - 10) (riff_size (length packet))) fault is.0 is.1
    (ap webp_refusal (sym same) ∙ e))
