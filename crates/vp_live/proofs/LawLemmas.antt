-- Live files and the files that `encode_all` writes.
use Rattle.std.proofs.Common.{◌≡◌, ◌≢◌, inl, inr, ℕ, false, nat_lt, List, ◌++◌, length, drop, map, Option, Some, None, Ok, Err, refl, sym, ap, subst, ◌∙◌, arith}
use Rattle.std.proofs.lemmas.List.{length-append}
use Rattle.std.proofs.lemmas.Bool.{le-ltb}
use Rattle.std.specs.List.{enumerate_from}
use Rattle.vp_ivf.specs.Text.{head_text, packets_text}
use Rattle.vp_ivf.specs.Ivf.{Contents, read_file, next_head, parsed_ivf_head}
use Rattle.vp_base.specs.declared.limits.Limits.{Limits}
use Rattle.vp_base.specs.Image.{Image}
use Rattle.vp_ivf.specs.Reader.{finish_answer}
use Rattle.vp_y4m.specs.declared.fault.SourceFault.{SourceFault}
use Rattle.vp_y4m.specs.declared.fault.SourceFault.TheVariants as source
use Rattle.vp_y4m.specs.Pictures.{file_head, next_of}
use Rattle.vp_encode.specs.declared.settings.Settings.{Settings}
use Rattle.vp_encode.specs.declared.report.EncodeAllFault.{EncodeAllFault}
use Rattle.vp_encode.specs.declared.report.EncodeAllFault.TheVariants as fault
use Rattle.vp_encode.specs.File.{Work, HasDone, HasOneMore, IsEndedBehind, encode_fault_of, encoded_file, packet_of, timed}
use Rattle.vp_encode.specs.Playing.{answers_from_state, bytes_of}
use Rattle.vp_encode.proofs.PlayingLemmas.{plays}
use Rattle.vp_live.specs.Live.{IsRefused, IsHeadFault, IsNextFault, IsLiveEnded, live_file}
use Rattle.vp_live.specs.Laws.{LiveFilesAreEncoded, LiveFaultsAreEncodes, LiveFilesPlayBack}

head_alike : (w h rate scale count : ℕ) (rest : List ℕ) → next_head (head_text w h rate scale count ++ rest) ≡ Ok (Some (parsed_ivf_head (head_text w h rate scale 0 ++ rest)))
unfolding head_text next_head
head_alike w h rate scale count rest =
    let long : nat_lt (length (head_text w h rate scale count ++ rest)) 32 ≡ false =
    le-ltb (length (head_text w h rate scale count ++ rest)) 32 (omega (arith, length-append (head_text w h rate scale count) rest)) in
    rw long refl

head_drop : (w h rate scale count : ℕ) (rest : List ℕ) → drop 32 (head_text w h rate scale count ++ rest) ≡ rest
unfolding head_text
head_drop w h rate scale count rest = refl

count_unread : (max n w h rate scale a b : ℕ) (rest : List ℕ) → read_file max n (head_text w h rate scale a ++ rest) ≡ read_file max n (head_text w h rate scale b ++ rest)
unfolding read_file
count_unread max n w h rate scale a b rest =
    rw (head_alike w h rate scale a rest, head_alike w h rate scale b rest, head_drop w h rate scale a rest, head_drop w h rate scale b rest) refl

pub are_encoded : LiveFilesAreEncoded
are_encoded limits settings report file before after live =
    let w = live.work in (
      record {
        head = record { w = w.head.w; h = w.head.h; rate = w.head.rate; scale = w.head.scale };
        packets = map timed (enumerate_from 0 (map packet_of w.frames));
        first = (0, refl);
        second = (_, refl);
      },
      record { work = w; done = live.done; whole = live.whole; frames = live.frames; error = live.error; writes = refl },
    )

-- whatever its number of packets, the file is read alike
read_alike : (max n : ℕ) (w : Work) → read_file max n (live_file w) ≡ read_file max n (encoded_file w)
read_alike max n w =
    count_unread max n w.head.w w.head.h w.head.rate w.head.scale 0 _ (packets_text (map timed (enumerate_from 0 (map packet_of w.frames))))

pub live_plays : LiveFilesPlayBack
live_plays limits others settings file w done fit =
    let p = plays limits others settings file w done fit in
    let same = read_alike others.packet_bytes others.packets w in
    record { ends = ap finish_answer same ∙ p.ends; pictures = ap (λ (r : Contents). answers_from_state others None (map bytes_of r.packets)) same ∙ p.pictures }

-- ---- faults

module _ (limits : Limits) (settings : Settings) (file : List ℕ) (written : Option (List ℕ)) where
  abbrev Ends : ℕ → EncodeAllFault → Type 0
  Ends n f = IsEndedBehind n limits settings f file written written

  head_source : (s : SourceFault) → file_head limits.pixels file ≡ Err s → Ends 0 (encode_fault_of s)
  head_source source.Magic e = inl (e, refl)
  head_source source.Size e = inl (e, refl)
  head_source source.Colour e = inl (e, refl)
  head_source source.Interlaced e = inl (e, refl)
  head_source source.Torn e = inl (e, refl)
  head_source source.Device e = inl (refl, inl refl)
  head_source source.Memory e = inl refl

  head_fault : (f : EncodeAllFault) → f ≢ fault.Device → IsHeadFault limits settings f file → Ends 0 f
  head_fault f n (inl h) = subst (Ends 0) (sym h.1) (head_source h.0 h.2)
  head_fault f n (inr (inl h)) = subst (Ends 0) (sym h.0) (h.1, h.2, h.3, refl)
  head_fault f n (inr (inr e)) = absurd (n e)

  module _ (n : ℕ) (w : Work) (done : HasDone n limits settings file w) where
    next_source : (s : SourceFault) → next_of w.head.w w.head.h w.rest ≡ Err s → Ends n (encode_fault_of s)
    next_source source.Magic e = inr (w, done, e)
    next_source source.Size e = inr (w, done, e)
    next_source source.Colour e = inr (w, done, e)
    next_source source.Interlaced e = inr (w, done, e)
    next_source source.Torn e = inr (w, done, e)
    next_source source.Device e = inl (refl, inr (w, done))
    next_source source.Memory e = inr (w, done)

    refusal : (f : EncodeAllFault) (p : Image) → HasOneMore w p → IsRefused limits w.encoder (length w.frames) p f → Ends n f
    refusal f p more (inl r) = subst (Ends n) (sym r.0) (w, p, done, more, r.1)
    refusal f p more (inr (inl r)) = subst (Ends n) (sym r.0) (w, p, done, more, r.1, r.2)
    refusal f p more (inr (inr (inl r))) =
        let M : Image → Type 0 = λ q. HasOneMore w q in
        subst (Ends n) (sym r.0) (w, r.2, r.3, done, subst M (sym r.4) more, r.1, r.5, r.6)
    refusal f p more (inr (inr (inr e))) = subst (Ends n) (sym e) (inr (w, done))

    next_fault : (f : EncodeAllFault) → f ≢ fault.Device → IsNextFault limits f w → Ends n f
    next_fault f not (inl h) = subst (Ends n) (sym h.1) (next_source h.0 h.2)
    next_fault f not (inr (inl h)) = refusal f h.0 h.1 h.2
    next_fault f not (inr (inr (inl e))) = absurd (not e)
    next_fault f not (inr (inr (inr e))) = subst (Ends n) (sym e) (inr (w, done))

  ended : (n : ℕ) (f : EncodeAllFault) (before after : Option (List ℕ)) → f ≢ fault.Device → IsLiveEnded n limits settings f file before after → Ends n f
  ended n f before after not (inl h) = subst (λ (m : ℕ). Ends m f) (sym h.1) (head_fault f not h.0)
  ended n f before after not (inr (inl h)) = next_fault n h.0 h.1 f not h.2
  ended n f before after not (inr (inr h)) = absurd (not h.0)

pub faults_are : LiveFaultsAreEncodes
faults_are n limits settings f file before after written not h = ended limits settings file written n f before after not h
