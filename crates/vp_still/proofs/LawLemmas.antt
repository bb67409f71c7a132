-- The packet of a WebP file that is written, and what it shows.
use Rattle.std.proofs.Common.{◌≡◌, ◌∙◌, ℕ, ◌-◌, ◌*◌, ◌^◌, ◌≤◌, Bool, true, false, not, length, List, [], ◌∷◌, take, Option, Some, None, Ok, if◌then◌else◌, refl, sym, ap, subst}
use Rattle.std.specs.Prelude.{MatchBool, codes, nat_eq, nat_lt, slice_get, is_none}
use Rattle.std.specs.List.{starts_with}
use Rattle.std.proofs.lemmas.List.{append-nil}
use Rattle.std.proofs.lemmas.Option.{same_Some, none-some}
use Rattle.vp_base.specs.declared.limits.Limits.{Limits}
use Rattle.vp_base.specs.Image.{Image, i420}
use Rattle.vp_head.specs.Tag.{IsKeyPacket, tag_of}
use Rattle.vp_ivf.specs.declared.packet.Packet.{Packet}
use Rattle.vp_webp.specs.declared.fault.WebPWriteFault.{WebPWriteFault}
use Rattle.vp_webp.specs.declared.fault.WebPWriteFault.TheVariants.{NotKey, Hidden, TooLong}
use Rattle.vp_webp.specs.WebP.{is_key_packet, is_shown_packet, still_image}
use Rattle.vp_webp.specs.Text.{riff_size, webp_text, webp_refusal}
use Rattle.vp_webp.specs.Laws.{IsWebPReadBack}
use Rattle.vp_search.specs.Differences.{sum_of_squares}
use Rattle.vp_decode.specs.Step.{DecoderState, Answer, step}
use Rattle.vp_decode.proofs.CutLemmas.{IsOpened, opened-is}
use Rattle.vp_stream.specs.Seeking.{Shown, answer_at, answer_or_none, answer_values, key_before, size_at, size_in, size_in_key, state_after_packets}
use Rattle.vp_stream.proofs.AnswerLemmas.{Resets, answer_there}
use Rattle.vp_still.specs.declared.found.Found.{Found}
use Rattle.vp_still.specs.Found.{IsFirst, IsFoundInWebP, IsFoundInIvf}
use Rattle.vp_scale.specs.declared.scale.Scale.{Scale}
use Rattle.vp_scale.specs.declared.scale.Scale.TheVariants.{Full, Half, Quarter, Eighth}
use Rattle.vp_scale.specs.Scale.{factor_of, scaled_side}
use Rattle.vp_still.specs.declared.still.Coding.{Coding}
use Rattle.vp_still.specs.declared.still.Coding.TheVariants.{Kept, Encoded}
use Rattle.vp_still.specs.Still.{file_of, kept_file, IsEncodedStill, IsStillOver}
use Rattle.vp_still.specs.Laws.{IsWebPOf, KeptFilesShowThePicture, EncodedFilesShowTheirDistance, ShowsStill, StillsShowTheirPictures}
use Rattle.vp_still.proofs.StillLemmas.{key_numbers, is_key_shown}

-- ---- a packet that has a file

by_refusal : (o : Option WebPWriteFault) (text file : List ℕ) → (if is_none o then Some text else None) ≡ Some file → (o ≡ None) × (text ≡ file)
by_refusal None text file e = (refl, same_Some text file e)
by_refusal (Some fault) text file e = absurd (none-some file e)

has_file : (packet file : List ℕ) → file_of packet ≡ Some file → (webp_refusal packet ≡ None) × (webp_text packet ≡ file)
has_file packet file e = by_refusal (webp_refusal packet) (webp_text packet) file e

-- its file is read as the packet
read_again : IsWebPReadBack → (packet file : List ℕ) → file_of packet ≡ Some file → still_image file ≡ Ok (record { packet = packet; has_alpha = false; canvas = None })
read_again law packet file e =
    let h = has_file packet file e in
    ap (λ (bytes : List ℕ). still_image bytes) (sym h.1 ∙ sym (append-nil (webp_text packet))) ∙ law packet [] h.0

not_refused : (key shown long : Bool)
    → (if not key then Some NotKey else (if not shown then Some Hidden else (if long then Some TooLong else None))) ≡ None → key ≡ true
not_refused true shown long e = refl
not_refused false shown long e = absurd cc

-- a packet that has a file is a key packet
is_key : (packet file : List ℕ) → file_of packet ≡ Some file → IsKeyPacket packet
is_key packet file e = key_numbers packet (not_refused (is_key_packet packet) (is_shown_packet packet) (nat_lt (2 ^ 32 - 10) (riff_size (length packet))) (has_file packet file e).0)

-- ---- a packet that is kept

-- the answer for a key packet is that for it alone
key_alone : (limits : Limits) (packets : List Packet) (n : ℕ) (p : Packet) → Resets limits → slice_get packets n ≡ Some p → IsKeyPacket p.bytes
    → answer_at limits packets n ≡ answer_values (step limits None p.bytes).1
key_alone limits packets n p reset there key =
    ap answer_or_none (answer_there limits None packets n p there)
    ∙ ap (λ (r : Option DecoderState × Answer). answer_values r.1) (reset (state_after_packets limits None (take n packets)) p.bytes key)

shown_alone : (limits : Limits) (file : List ℕ) (wanted : Option ℕ) (f : Found) (riff : Bool) → Resets limits → IsKeyPacket f.packet
    → MatchBool riff (IsFirst wanted × IsFoundInWebP limits file f) (IsFoundInIvf limits file wanted f)
    → answer_values (step limits None f.packet).1 ≡ Shown f.dim.w f.dim.h f.pixels
shown_alone limits file wanted f true reset key is =
    ap (λ (p : List ℕ). answer_values (step limits None p).1) is.1.packet_is ∙ is.1.picture
shown_alone limits file wanted f false reset key is =
    let s = is.shown in
    ap (λ (p : List ℕ). answer_values (step limits None p).1) s.packet_is
    ∙ sym (key_alone limits _ f.number s.own reset s.there (subst IsKeyPacket s.packet_is key))
    ∙ s.picture

pub kept_shows : IsWebPReadBack → ((limits : Limits) → Resets limits) → KeptFilesShowThePicture
kept_shows law reset limits file wanted found own is kept = record {
  read = read_again law found.packet own kept;
  picture = shown_alone limits file wanted found (starts_with nat_eq file (codes "RIFF")) (reset limits) (is_key found.packet own kept) is;
}

-- ---- a picture that is encoded

abbrev pub KeySizes : Type 0
KeySizes = (limits : Limits) (packets : List Packet) (n w h : ℕ) (pixels : List ℕ) → answer_at limits packets n ≡ Shown w h pixels
    → size_at limits packets (key_before packets n) ≡ Some (w, h)

-- a key packet alone shows a picture of the size in its tag
size_alone : KeySizes → (limits : Limits) (packet : List ℕ) (w h : ℕ) (pixels : List ℕ) → is_key_packet packet ≡ true
    → answer_values (step limits None packet).1 ≡ Shown w h pixels → size_in (tag_of limits packet) ≡ Some (w, h)
unfolding key_before
size_alone law limits packet w h pixels key e =
    let q : Packet = record { time = 0; bytes = packet } in
    ap (λ (b : Bool). size_at limits (q ∷ []) (if b then Some 0 else None)) (sym key) ∙ law limits (q ∷ []) 0 w h pixels e

pub encoded_shows : IsWebPReadBack → KeySizes → EncodedFilesShowTheirDistance
encoded_shows law sizes limits scale qi w h pixels file error is fits =
    let k = is.coded in
    let recon : Image = k.frame.recon in
    let small : k.dim.w * k.dim.h ≤ limits.pixels = subst (λ (n : ℕ). n ≤ limits.pixels) (λ i. sym k.width i * sym k.height i) fits in
    let shown : answer_values (step limits None is.packet).1 ≡ Shown recon.width recon.height (i420 recon) =
    ap (λ (p : List ℕ). answer_values (step limits None p).1) k.packet_is
    ∙ ap (λ (r : Option DecoderState × Answer). answer_values r.1) (k.encoded.decoded limits small) in
    let opened : IsOpened limits None k.frame.packet k.encoded.chosen.opening = opened-is limits None k.frame.packet k.encoded.chosen.opening (k.encoded.chosen.opens limits small) in
    let told : size_in (tag_of limits is.packet) ≡ Some (k.dim.w, k.dim.h) =
    ap (λ (p : List ℕ). size_in (tag_of limits p)) k.packet_is ∙ (ap size_in opened.tag_is ∙ ap size_in_key k.encoded.chosen.key) in
    let same : (k.dim.w, k.dim.h) ≡ (recon.width, recon.height) =
    same_Some _ _ (sym told ∙ size_alone sizes limits is.packet recon.width recon.height (i420 recon) (is_key_shown scale qi w h pixels is.packet error k).0 shown) in
    record {
      packet = is.packet;
      recon = i420 recon;
      shows = record {
        read = read_again law is.packet file is.file_is;
        picture = shown ∙ (λ i. Shown ((ap (λ (d : ℕ × ℕ). d.0) (sym same) ∙ k.width) i) ((ap (λ (d : ℕ × ℕ). d.1) (sym same) ∙ k.height) i) (i420 recon));
      };
      distance = k.error_is ∙ ap (λ (xs : List ℕ). sum_of_squares xs (i420 recon)) k.source;
    }

-- ---- either

own_file : (scale : Scale) (packet own : List ℕ) → kept_file scale packet ≡ Some own → file_of packet ≡ Some own
own_file Full packet own e = e
own_file Half packet own e = absurd (none-some own e)
own_file Quarter packet own e = absurd (none-some own e)
own_file Eighth packet own e = absurd (none-some own e)

module _ (law : IsWebPReadBack) (sizes : KeySizes) (limits : Limits) (reset : Resets limits) (packets : List Packet) (n : ℕ) (own : Packet) (scale : Scale) (qi w h : ℕ) (pixels file : List ℕ)
    (there : slice_get packets n ≡ Some own) (shown : answer_at limits packets n ≡ Shown w h pixels) (fits : scaled_side (factor_of scale) w * scaled_side (factor_of scale) h ≤ limits.pixels) where
  kept_picture : (text : List ℕ) → kept_file scale own.bytes ≡ Some text → IsWebPOf limits text own.bytes w h pixels
  kept_picture text e = record {
    read = read_again law own.bytes text (own_file scale own.bytes text e);
    picture = sym (key_alone limits packets n own reset there (is_key own.bytes text (own_file scale own.bytes text e))) ∙ shown;
  }

  encoded_picture : (coding : Coding) → IsEncodedStill scale qi w h pixels coding file → ShowsStill limits scale own.bytes w h pixels coding file
  encoded_picture Kept is = absurd is
  encoded_picture (Encoded error) is = encoded_shows law sizes limits scale qi w h pixels file error is fits

  still_picture : (coding : Coding) (text : Option (List ℕ)) → kept_file scale own.bytes ≡ text → IsStillOver text scale qi w h pixels coding file
      → ShowsStill limits scale own.bytes w h pixels coding file
  still_picture coding (Some text) e is =
      subst (λ (c : Coding). ShowsStill limits scale own.bytes w h pixels c file) (sym is.0)
      (subst (λ (bytes : List ℕ). IsWebPOf limits bytes own.bytes w h pixels) (sym is.1) (kept_picture text e))
  still_picture coding None e is = encoded_picture coding is

pub stills_show : IsWebPReadBack → KeySizes → ((limits : Limits) → Resets limits) → StillsShowTheirPictures
stills_show law sizes reset limits packets n own scale qi w h pixels file coding there shown is fits =
    still_picture law sizes limits (reset limits) packets n own scale qi w h pixels file there shown fits coding (kept_file scale own.bytes) refl is
