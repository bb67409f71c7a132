-- A source's pictures are encoded and written, one after another.
use Rattle.std.proofs.Common.{◌≡◌, ◌≢◌, ℕ, ◌+◌, ◌≤◌, ◌<◌, List, [], ◌∷◌, ◌++◌, length, map, Option, Some, None, Result, Ok, Err, ◌⊎◌, refl, sym, ap, subst, ◌∙◌, inl, inr, append_assoc, ◌*◌, arith}
use Rattle.std.specs.Io.KnownBytes.{Appends, Consumes}
use Rattle.std.proofs.KnownBytes.{Consumes-nil}
use Rattle.std.proofs.lemmas.List.{length-append, append-nil, map-append}
use Rattle.std.proofs.lemmas.List.Elements.{All-nil, All-push}
use Rattle.std.proofs.lemmas.List.Sums.{sum_by_push}
use Rattle.vp_base.specs.declared.limits.Dim.{Dim}
use Rattle.vp_base.specs.declared.limits.Limits.{Limits}
use Rattle.vp_base.specs.Image.{Image, i420}
use Rattle.vp_base.specs.Counted.{AppendsPrefix}
use Rattle.vp_ivf.specs.Text.{packet_text}
use Rattle.vp_y4m.specs.declared.fault.SourceFault.{SourceFault}
use Rattle.vp_y4m.specs.declared.fault.SourceFault.TheVariants as source
use Rattle.vp_y4m.specs.Header.{Head}
use Rattle.vp_y4m.specs.Pictures.{file_head, next_of}
use Rattle.vp_y4m.specs.Reads.{ShowsAtEnd, Fails}
use Rattle.vp_y4m.specs.Text.{i420_length}
use Rattle.vp_encode.specs.declared.settings.Settings.{Settings}
use Rattle.vp_encode.specs.declared.report.EncodeAllFault.{EncodeAllFault}
use Rattle.vp_encode.specs.declared.report.EncodeAllFault.TheVariants as fault
use Rattle.vp_encode.specs.Encoder.{EncoderState, AreAllowed}
use Rattle.vp_encode.specs.Encoded.{EncodedFrame, initial_encoder, packet_length, error_of}
use Rattle.vp_encode.specs.Pictures.{IsPicture, BeginWith}
use Rattle.vp_encode.specs.File.{Work, IsDone, HasDone, HasOneMore, AreFramesOf, source_of, encode_fault_of, frames_report, so_far_of}
use Rattle.vp_live.specs.Live.{IsRefused, IsHeadFault, IsNextFault, IsLiveEnded, IsLiveReported, live_text, live_file}
use Rattle.vp_live.specs.Progress.{LiveProgress, IsMade, IsCounted, IsLiveAt, frames_text, report_so_far, so_far}
use Rattle.vp_encode.proofs.FileLemmas.{begins_more, encoded_more, within_more}
use Rattle.vp_live.proofs.TextLemmas.{written_file}

-- ---- one more picture

-- before the first picture
pub at_start : (settings : Settings) (head : Head) (line : List ℕ) (dim : Dim) (run : LiveProgress) → AreAllowed settings → dim.w ≡ head.w → dim.h ≡ head.h
    → run.encoder ≡ initial_encoder dim settings → run.frames ≡ 0 → run.bytes ≡ 0 → run.error ≡ 0
    → ((rest : List ℕ) → file_head run.limits.pixels (line ++ rest) ≡ Ok (head, rest)) → IsLiveAt settings head line [] run
at_start settings head line dim run allowed width height first none empty zero shown = record {
  done = λ rest. record {
    body = rest;
    headed = shown rest;
    allowed = allowed;
    pictures = refl;
    dim = dim;
    width = width;
    height = height;
    encoded = first;
    few = omega arith;
    small = All-nil (λ f. length f.packet ≤ run.limits.packet_bytes);
  };
  frames_are = none;
  bytes_are = empty;
  error_is = zero;
}

-- the picture's frame is counted
pub at_more : (settings : Settings) (head : Head) (line bytes taken : List ℕ) (frames : List EncodedFrame) (old new : LiveProgress) (p : Image) (f : EncodedFrame)
    → IsLiveAt settings head (line ++ bytes) frames old → IsPicture head.w head.h p
    → ((rest : List ℕ) → next_of head.w head.h (taken ++ rest) ≡ Ok (Some (i420 p, rest)))
    → IsCounted old p f new → IsLiveAt settings head (line ++ (bytes ++ taken)) (frames ++ f ∷ []) new
at_more settings head line bytes taken frames old new p f h is next c =
    let S : Image → Type 0 = λ q. IsPicture head.w head.h q × ((rest : List ℕ) → next_of head.w head.h (taken ++ rest) ≡ Ok (Some (i420 q, rest))) in
    let k = subst S (sym c.made.source) (is, next) in
    let P : EncodedFrame → Type 0 = λ x. length x.packet ≤ old.limits.packet_bytes in
    record {
      done = λ rest.
          let d = h.done (taken ++ rest) in
          let w : Work = record { head = head; frames = frames ++ f ∷ []; encoder = new.encoder; rest = rest } in
          let B : List ℕ → Type 0 = λ b. IsDone old.limits settings b w in
          let L : Limits → Type 0 = λ l. IsDone l settings ((line ++ (bytes ++ taken)) ++ rest) w in
          let Q : List Image → Type 0 = λ ps. BeginWith head.w head.h d.body ps rest in
          let many : length (frames ++ f ∷ []) ≤ old.limits.packets = omega (arith, c.made.room, h.frames_are, length-append frames (f ∷ [])) in
          let group : (line ++ bytes) ++ (taken ++ rest) ≡ (line ++ (bytes ++ taken)) ++ rest =
          sym (append_assoc (line ++ bytes) taken rest) ∙ ap (λ b. b ++ rest) (append_assoc line bytes taken) in
          subst L (sym c.limits) (subst B group (record {
            body = d.body;
            headed = d.headed;
            allowed = d.allowed;
            pictures = subst Q (sym (map-append source_of frames (f ∷ []))) (begins_more head.w head.h d.body (map source_of frames) (taken ++ rest) f.source rest d.pictures k.0 (k.1 rest));
            dim = d.dim;
            width = d.width;
            height = d.height;
            encoded = encoded_more (initial_encoder d.dim settings) frames old.encoder f new.encoder d.encoded c.made.encoded;
            few = many;
            small = All-push P frames f d.small c.made.small;
          }));
      frames_are = omega (arith, length-append frames (f ∷ []));
      bytes_are = c.bytes ∙ (ap (λ n. n + packet_length f) h.bytes_are ∙ sym (sum_by_push packet_length frames f));
      error_is = c.error ∙ (ap (λ n. n + error_of f) h.error_is ∙ sym (sum_by_push error_of frames f));
    }

-- nothing is read behind the line yet
pub at_first : (settings : Settings) (head : Head) (line : List ℕ) (run : LiveProgress) → IsLiveAt settings head line [] run → IsLiveAt settings head (line ++ []) [] run
at_first settings head line run h = let B : List ℕ → Type 0 = λ b. IsLiveAt settings head b [] run in subst B (sym (append-nil line)) h

-- ---- the number of frames, and their report

pub counted_more : (old new : LiveProgress) (p : Image) (f : EncodedFrame) (frames : List EncodedFrame) → IsCounted old p f new → old.frames ≡ length frames → new.frames ≡ length (frames ++ f ∷ [])
counted_more old new p f frames c same = omega (arith, length-append frames (f ∷ []))

pub reported_at : (settings : Settings) (head : Head) (bytes : List ℕ) (frames : List EncodedFrame) (run : LiveProgress) → IsLiveAt settings head bytes frames run
    → report_so_far run ≡ frames_report frames
reported_at settings head bytes frames run h = λ i. record { frames = h.frames_are i; error = h.error_is i }

pub so_far_at : (settings : Settings) (head : Head) (bytes : List ℕ) (frames : List EncodedFrame) (run : LiveProgress) → IsLiveAt settings head bytes frames run
    → so_far run ≡ so_far_of frames
so_far_at settings head bytes frames run h = λ i. record { frames = h.frames_are i; bytes = h.bytes_are i; error = h.error_is i }

pub none_yet : (n most : ℕ) → n ≡ 0 → n ≤ most
none_yet n most none = omega arith

pub few_more : (limits : Limits) (old new : LiveProgress) (p : Image) (f : EncodedFrame) → old.limits ≡ limits → IsCounted old p f new → new.frames ≤ limits.packets
few_more limits old new p f same c =
    let most = ap (λ (l : Limits). l.packets) same in omega (arith, c.made.room)

abbrev each : Head → ℕ
each h = 1025 + i420_length h.w h.h

pub within_next : (head now : Head) (old mid new : ℕ) (run next : LiveProgress) (p : Image) (f : EncodedFrame) → now ≡ head → IsCounted run p f next
    → mid ≤ old + run.frames * each head → new ≤ mid + each now → new ≤ old + next.frames * each head
within_next head now old mid new run next p f same counted before more =
    subst (λ (n : ℕ). new ≤ old + n * each head) (sym counted.frames)
    (within_more run.frames run.frames head now old mid new (omega arith) same before more)

-- ---- the ends

-- what a source that failed proves of the bytes that it took
fails_at : {A : Type 0} (read : List ℕ → Result A SourceFault) (f : SourceFault) (before after : Option (List ℕ)) → (f ≢ source.Memory → Fails read f before after) → (f ≡ source.Memory → after ≡ before)
    → (taken : List ℕ) × Consumes before after taken × ((read taken ≡ Err f) ⊎ (f ≡ source.Device) ⊎ (f ≡ source.Memory))
fails_at read source.Torn before after s m = let t = s (λ e. cc) in (t.taken, t.consumed, inl t.shown)
fails_at read source.Device before after s m = let t = s (λ e. cc) in (t.0, t.1, inr (inl refl))
fails_at read source.Memory before after s m =
    let C : Option (List ℕ) → Type 0 = λ a. Consumes before a [] in ([], subst C (sym (m refl)) (Consumes-nil before), inr (inr refl))
fails_at read f before after s m = let t = s (λ e. cc) in (t.taken, t.consumed, inl (ap read (sym (append-nil t.taken)) ∙ t.shown []))

-- the head's line
head_fault : (limits : Limits) (settings : Settings) (f : SourceFault) (before after : Option (List ℕ)) (taken : List ℕ) → Fails (file_head limits.pixels) f before after
    → (file_head limits.pixels taken ≡ Err f) ⊎ (f ≡ source.Device) ⊎ (f ≡ source.Memory) → IsHeadFault limits settings (encode_fault_of f) taken
head_fault limits settings f before after taken fails (inl e) = inl (f, refl, e)
head_fault limits settings f before after taken fails (inr (inl e)) = inr (inr (ap encode_fault_of e))
head_fault limits settings f before after taken fails (inr (inr e)) =
    let F : SourceFault → Type 0 = λ g. Fails (file_head limits.pixels) g before after in absurd (subst F e fails)

pub head_ends : (limits : Limits) (settings : Settings) (f : SourceFault) (left left' : Option (List ℕ)) → Fails (file_head limits.pixels) f left left'
    → (taken : List ℕ) × Consumes left left' taken × ((written : Option (List ℕ)) → IsLiveEnded 0 limits settings (encode_fault_of f) taken written written)
head_ends limits settings f left left' fails =
    let F : SourceFault → Type 0 = λ g. Fails (file_head limits.pixels) g left left' in
    let t = fails_at (file_head limits.pixels) f left left' (λ n. fails) (λ e. absurd (subst F e fails)) in
    (t.0, t.1, λ written. inl (head_fault limits settings f left left' t.0 fails t.2, refl, refl))

module _ (settings : Settings) (head : Head) (line bytes : List ℕ) (frames : List EncodedFrame) (run : LiveProgress) (limits : Limits) (same : run.limits ≡ limits)
    (h : IsLiveAt settings head (line ++ bytes) frames run)
    (before start now : Option (List ℕ)) (headed : Appends before start (live_text head [])) (written : Appends start now (frames_text frames)) where
  abbrev work : List ℕ → Work
  work rest = record { head = head; frames = frames; encoder = run.encoder; rest = rest }

  done : (rest : List ℕ) → IsDone limits settings (line ++ (bytes ++ rest)) (work rest)
  done rest =
      let L : Limits → Type 0 = λ l. IsDone l settings (line ++ (bytes ++ rest)) (work rest) in
      let B : List ℕ → Type 0 = λ b. IsDone run.limits settings b (work rest) in
      subst L same (subst B (append_assoc line bytes rest) (h.done rest))

  counted : (rest : List ℕ) → HasDone (length frames) limits settings (line ++ (bytes ++ rest)) (work rest)
  counted rest = (done rest, refl)

  are : (rest : List ℕ) → AreFramesOf limits settings (line ++ (bytes ++ rest)) frames
  are rest = inr (work rest, done rest, refl)

  whole : Appends before now (live_file (work []))
  whole = written_file before start now head frames headed written

  one_more : (taken : List ℕ) (p : Image) → IsPicture head.w head.h p
      → ((rest : List ℕ) → next_of head.w head.h (taken ++ rest) ≡ Ok (Some (i420 p, rest))) → HasOneMore (work taken) p
  one_more taken p is next = ([], is, ap (next_of head.w head.h) (sym (append-nil taken)) ∙ next [], refl)

  next_fault : (f : SourceFault) (taken : List ℕ) → (next_of head.w head.h taken ≡ Err f) ⊎ (f ≡ source.Device) ⊎ (f ≡ source.Memory) → IsNextFault limits (encode_fault_of f) (work taken)
  next_fault f taken (inl e) = inl (f, refl, e)
  next_fault f taken (inr (inl e)) = inr (inr (inl (ap encode_fault_of e)))
  next_fault f taken (inr (inr e)) = inr (inr (inr (ap encode_fault_of e)))

  -- the source fails
  pub source_ends : (f : SourceFault) (left left' : Option (List ℕ)) → (f ≢ source.Memory → Fails (next_of head.w head.h) f left left') → (f ≡ source.Memory → left' ≡ left)
      → (taken : List ℕ) × Consumes left left' taken × AreFramesOf limits settings (line ++ (bytes ++ taken)) frames
      × IsLiveEnded (length frames) limits settings (encode_fault_of f) (line ++ (bytes ++ taken)) before now
  source_ends f left left' s m =
      let t = fails_at (next_of head.w head.h) f left left' s m in
      (t.0, t.1, are t.0, inr (inl (work t.0, counted t.0, next_fault f t.0 t.2, whole)))

  -- one more picture is refused
  refused : (taken : List ℕ) (p : Image) → HasOneMore (work taken) p → (f : EncodeAllFault) → IsRefused run.limits run.encoder run.frames p f
      → IsLiveEnded (length frames) limits settings f (line ++ (bytes ++ taken)) before now
  refused taken p more f r =
      let L : Limits → Type 0 = λ l. IsRefused l run.encoder (length frames) p f in
      let N : ℕ → Type 0 = λ n. IsRefused run.limits run.encoder n p f in
      inr (inl (work taken, counted taken, inr (inl (p, more, subst L same (subst N h.frames_are r))), whole))

  -- its packet is not written as a whole
  cut_short : (taken : List ℕ) (p : Image) → HasOneMore (work taken) p → (f : EncodedFrame) (next : EncoderState) → IsMade run p f next
      → (after : Option (List ℕ)) → AppendsPrefix now after (packet_text run.frames f.packet)
      → IsLiveEnded (length frames) limits settings fault.Device (line ++ (bytes ++ taken)) before after
  cut_short taken p more f next made after front =
      let M : Image → Type 0 = λ q. HasOneMore (work taken) q in
      let N : ℕ → Type 0 = λ n. AppendsPrefix now after (packet_text n f.packet) in
      let R : ℕ → Type 0 = λ n. n < run.limits.packets in
      let L : Limits → Type 0 = λ l. (length frames < l.packets) × (length f.packet ≤ l.packet_bytes) in
      let k = subst L same (subst R h.frames_are made.room, made.small) in
      inr (inr (
        refl,
        inr (
          work taken,
          f,
          now,
          counted taken,
          record { more = subst M (sym made.source) more; next = next; room = k.0; small = k.1; encoded = made.encoded },
          whole,
          subst N h.frames_are front,
        ),
      ))

  -- one more picture is not encoded, or not written
  pub picture_ends : (taken : List ℕ) (p : Image) → IsPicture head.w head.h p
      → ((rest : List ℕ) → next_of head.w head.h (taken ++ rest) ≡ Ok (Some (i420 p, rest))) → (f : EncodeAllFault) (new : ℕ) (after : Option (List ℕ))
      → (IsRefused run.limits run.encoder run.frames p f × (new ≡ run.frames) × (after ≡ now))
      ⊎ ((f ≡ fault.Device) × (made : EncodedFrame) × (next : EncoderState) × IsMade run p made next × (new ≡ run.frames)
      × AppendsPrefix now after (packet_text run.frames made.packet))
      → AreFramesOf limits settings (line ++ (bytes ++ taken)) frames × IsLiveEnded (length frames) limits settings f (line ++ (bytes ++ taken)) before after
  picture_ends taken p is next f new after (inl r) =
      let A : Option (List ℕ) → Type 0 = λ a. IsLiveEnded (length frames) limits settings f (line ++ (bytes ++ taken)) before a in
      (are taken, subst A (sym r.2) (refused taken p (one_more taken p is next) f r.0))
  picture_ends taken p is next f new after (inr r) =
      let F : EncodeAllFault → Type 0 = λ g. IsLiveEnded (length frames) limits settings g (line ++ (bytes ++ taken)) before after in
      (are taken, subst F (sym r.0) (cut_short taken p (one_more taken p is next) r.1 r.2 r.3 after r.5))

  -- all pictures are encoded and written
  pub all_end : (left left' : Option (List ℕ)) → ShowsAtEnd (next_of head.w head.h) (Ok None) left left'
      → (taken : List ℕ) × Consumes left left' taken × AreFramesOf limits settings (line ++ (bytes ++ taken)) frames
      × (report_so_far run ≡ frames_report frames) × IsLiveReported limits settings (report_so_far run) (line ++ (bytes ++ taken)) before now
  all_end left left' s = (
    s.taken,
    s.consumed,
    are s.taken,
    reported_at settings head (line ++ bytes) frames run h,
    record { work = work s.taken; done = done s.taken; whole = s.shown; frames = h.frames_are; error = h.error_is; writes = whole },
  )
