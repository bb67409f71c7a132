-- A file's pictures are encoded, one after another.
use Rattle.std.proofs.Common.{◌≡◌, ◌≢◌, ℕ, ◌+◌, ◌^◌, ◌<◌, ◌≤◌, ◌*◌, ◌/◌, List, [], ◌∷◌, ◌++◌, length, map, Option, Some, None, Result, Ok, Err, refl, sym, ap, subst, ◌∙◌, ◌⊎◌, inl, inr, append_assoc, arith}
use Rattle.std.specs.List.{All}
use Rattle.std.specs.Io.KnownBytes.{Appends, Consumes, IsAtEnd}
use Rattle.std.proofs.KnownBytes.{Consumes-nil, Consumes-trans}
use Rattle.std.proofs.lemmas.List.{length-append, append-nil, map-append, length-map}
use Rattle.std.proofs.lemmas.Nat.{row_fits, mul-le}
use Rattle.std.proofs.lemmas.List.Elements.{All-nil, All-push, All-same, All-map, All-weaker}
use Rattle.std.proofs.lemmas.List.Sums.{sum_by_push}
use Rattle.vp_base.specs.declared.limits.Dim.{Dim}
use Rattle.vp_base.specs.declared.limits.Limits.{Limits}
use Rattle.vp_base.specs.Image.{Image, i420}
use Rattle.vp_base.specs.declared.counted.Counted.{Counted}
use Rattle.vp_base.specs.Counted.{AppendsPrefix, HasFailed, counted_remaining, counted_contents, counted_failures}
use Rattle.vp_y4m.specs.declared.fault.SourceFault.{SourceFault}
use Rattle.vp_y4m.specs.declared.fault.SourceFault.TheVariants as source
use Rattle.vp_y4m.specs.Header.{Head}
use Rattle.vp_y4m.specs.Pictures.{file_head, next_of}
use Rattle.vp_y4m.specs.Reads.{Shows, ShowsAtEnd, Fails}
use Rattle.vp_y4m.specs.Text.{i420_length}
use Rattle.vp_y4m.specs.Frames.{GivesPicture}
use Rattle.vp_y4m.specs.Source.{AnswersNextPicture}
use Rattle.vp_encode.specs.declared.settings.Settings.{Settings}
use Rattle.vp_encode.specs.declared.report.EncodeReport.{EncodeReport}
use Rattle.vp_encode.specs.declared.report.EncodedSoFar.{EncodedSoFar}
use Rattle.vp_encode.specs.declared.report.EncodeAllFault.{EncodeAllFault}
use Rattle.vp_encode.specs.declared.report.EncodeAllFault.TheVariants as fault
use Rattle.vp_encode.specs.Encoder.{EncoderState, AreAllowed}
use Rattle.vp_encode.specs.Encoded.{EncodedFrame, IsEncoded, AreEncoded, initial_encoder, packet_length, error_of}
use Rattle.vp_encode.specs.Pictures.{IsPicture, BeginWith}
use Rattle.vp_encode.specs.File.{IsWrittenFurther, Work, IsDone, HasAllPictures, HasOneMore, IsEndedBehind, IsAnswerBehind, IsAnswerOver, IsWatched, HasDone, AreFramesOf, most_reads, source_of, packet_of, ivf_text, encoded_file, encode_fault_of, frames_report, so_far_of, progress_after, progress_of_frames}
use Rattle.vp_encode.specs.EncodeProgress.{EncodeProgress, IsAdded, IsPictureRefused, IsHeadLine, IsBegun, IsAt, HasWorkFrames, EndsEncode, start}

-- ---- small facts, for where much else is known

pub ok_is_no_error : {A B : Type 0} {x : A} {y : B} → (let r : Result A B = Ok x in r ≢ Err y)
ok_is_no_error e = cc

pub none_at_most : 0 ≤ 1
none_at_most = omega arith

pub one_is_most : 1 ≤ 1
one_is_most = omega arith

pub no_fewer : (n m : ℕ) → n ≤ n + m
no_fewer n m = omega arith

-- ---- one more picture

pub begins_more : (w h : ℕ) (bytes : List ℕ) (ps : List Image) (mid : List ℕ) (p : Image) (rest : List ℕ)
    → BeginWith w h bytes ps mid → IsPicture w h p → next_of w h mid ≡ Ok (Some (i420 p, rest)) → BeginWith w h bytes (ps ++ p ∷ []) rest
begins_more w h bytes [] mid p rest e is next = (rest, is, ap (next_of w h) e ∙ next, refl)
begins_more w h bytes (q ∷ ps) mid p rest b is next = (b.0, b.1, b.2, begins_more w h b.0 ps mid p rest b.3 is next)

pub is_picture : (w h : ℕ) (p : Image) (before after : Option (List ℕ)) → GivesPicture w h p before after → IsPicture w h p
is_picture w h p before after s = record { width = s.width; height = s.height; outside = s.outside }

pub encoded_more : (e : EncoderState) (fs : List EncodedFrame) (mid : EncoderState) (f : EncodedFrame) (last : EncoderState)
    → AreEncoded e fs mid → IsEncoded mid f last → AreEncoded e (fs ++ f ∷ []) last
encoded_more e [] mid f last is h = let P : EncoderState → Type 0 = λ x. IsEncoded x f last in (last, subst P is h, refl)
encoded_more e (g ∷ fs) mid f last r h = (r.0, r.1, encoded_more r.0 fs mid f last r.2 h)

pub at_start : (head : Head) (begun : EncodeProgress) → (begun ≡ start begun.limits (initial_encoder begun.encoder.dim begun.encoder.settings)) → IsAt head begun begun [] []
at_start head begun first = record {
  pictures = λ rest. refl;
  encoded = refl;
  dim = refl;
  limits = refl;
  packets = ap (λ (r : EncodeProgress). r.packets) first;
  bytes_are = ap (λ (r : EncodeProgress). r.bytes) first;
  error = ap (λ (r : EncodeProgress). r.error) first;
  few = omega arith;
  small = All-nil (λ f. length f.packet ≤ begun.limits.packet_bytes);
}

-- one picture more, whose frame is added
pub at_next : (head : Head) (begun now new : EncodeProgress) (bytes : List ℕ) (frames : List EncodedFrame) (p : Image) (before after : Option (List ℕ))
    → IsAt head begun now bytes frames → (s : GivesPicture head.w head.h p before after) → (f : EncodedFrame) → f.source ≡ p → IsAdded now f new
    → IsAt head begun new (bytes ++ s.shown.taken) (frames ++ f ∷ [])
at_next head begun now new bytes frames p before after h s f is a =
    let P : EncodedFrame → Type 0 = λ x. length x.packet ≤ begun.limits.packet_bytes in
    let many : length now.packets ≡ length frames = ap length h.packets ∙ length-map frames packet_of in
    record {
      pictures = λ rest.
          rw (append_assoc, map-append source_of frames, is)
          (begins_more head.w head.h (bytes ++ (s.shown.taken ++ rest)) (map source_of frames) (s.shown.taken ++ rest) p rest (h.pictures (s.shown.taken ++ rest)) (is_picture head.w head.h p before after s) (s.shown.shown rest));
      encoded = encoded_more begun.encoder frames now.encoder f new.encoder h.encoded a.encoded;
      dim = a.encoded.dim ∙ h.dim;
      limits = a.limits ∙ h.limits;
      packets = a.packets ∙ (ap (λ ps. ps ++ f.packet ∷ []) h.packets ∙ sym (map-append packet_of frames (f ∷ [])));
      bytes_are = a.bytes ∙ (ap (λ n. n + packet_length f) h.bytes_are ∙ sym (sum_by_push packet_length frames f));
      error = a.error ∙ (ap (λ n. n + error_of f) h.error ∙ sym (sum_by_push error_of frames f));
      few = let same = ap (λ (l : Limits). l.packets) h.limits in omega (arith, length-append frames (f ∷ []));
      small = All-push P frames f h.small (rw (← h.limits) a.small);
    }

-- ---- what a watcher is told

pub told_none : (told : List EncodedSoFar → Type 0) → IsWrittenFurther told told (progress_of_frames [])
told_none told earlier is = subst told (sym (append-nil earlier)) is

reports_more : (earlier frames : List EncodedFrame) (f : EncodedFrame)
    → progress_after earlier (frames ++ f ∷ []) ≡ progress_after earlier frames ++ so_far_of (earlier ++ (frames ++ f ∷ [])) ∷ []
reports_more earlier [] f = refl
reports_more earlier (g ∷ frames) f =
    let same : (earlier ++ g ∷ []) ++ (frames ++ f ∷ []) ≡ earlier ++ (g ∷ (frames ++ f ∷ [])) = append_assoc earlier (g ∷ []) (frames ++ f ∷ []) in
    ap (λ (rs : List EncodedSoFar). so_far_of (earlier ++ g ∷ []) ∷ rs)
    (reports_more (earlier ++ g ∷ []) frames f ∙ ap (λ (fs : List EncodedFrame). progress_after (earlier ++ g ∷ []) frames ++ so_far_of fs ∷ []) same)

pub told_more : (before mid after : List EncodedSoFar → Type 0) (frames : List EncodedFrame) (f : EncodedFrame) (report : EncodedSoFar) → IsWrittenFurther before mid (progress_of_frames frames)
    → report ≡ so_far_of (frames ++ f ∷ []) → IsWrittenFurther mid after (report ∷ []) → IsWrittenFurther before after (progress_of_frames (frames ++ f ∷ []))
told_more before mid after frames f report told is more = λ past was.
    let told_now = more (past ++ progress_of_frames frames) (told past was) in
    subst (λ (rs : List EncodedSoFar). after (past ++ rs)) (sym (reports_more [] frames f))
    (subst after (append_assoc past (progress_of_frames frames) (so_far_of (frames ++ f ∷ []) ∷ []))
    (subst (λ (r : EncodedSoFar). after ((past ++ progress_of_frames frames) ++ r ∷ [])) is told_now))

-- how much a run has encoded is that of its frames
pub so_far_at : (head : Head) (begun now : EncodeProgress) (bytes : List ℕ) (frames : List EncodedFrame) → IsAt head begun now bytes frames
    → (report : EncodedSoFar) → report ≡ record { frames = length now.packets; bytes = now.bytes; error = now.error } → report ≡ so_far_of frames
so_far_at head begun now bytes frames h report is =
    let many : length now.packets ≡ length frames = ap length h.packets ∙ length-map frames packet_of in
    let same : ◌≡◌ {A = EncodedSoFar} (record { frames = length now.packets; bytes = now.bytes; error = now.error }) (so_far_of frames) =
    λ i. record { frames = many i; bytes = h.bytes_are i; error = h.error i } in
    is ∙ same

-- ---- the ends

module _ (front : List ℕ) (head : Head) (begun now : EncodeProgress) (bytes : List ℕ) (frames : List EncodedFrame)
    (b : IsBegun front head begun) (h : IsAt head begun now bytes frames) where
  abbrev work : List ℕ → Work
  work rest = record { head = head; frames = frames; encoder = now.encoder; rest = rest }

  done : (rest : List ℕ) → IsDone begun.limits begun.encoder.settings (front ++ (bytes ++ rest)) (work rest)
  done rest = let E : EncoderState → Type 0 = λ e. AreEncoded e frames now.encoder in record {
    body = bytes ++ rest;
    headed = b.line (bytes ++ rest);
    allowed = b.allowed;
    pictures = h.pictures rest;
    dim = begun.encoder.dim;
    width = b.width;
    height = b.height;
    encoded = subst E (ap (λ (r : EncodeProgress). r.encoder) b.first) h.encoded;
    few = h.few;
    small = h.small;
  }

  one_more : (p : Image) (before after : Option (List ℕ)) → (s : GivesPicture head.w head.h p before after) → HasOneMore (work s.shown.taken) p
  one_more p before after s = ([], is_picture head.w head.h p before after s, ap (next_of head.w head.h) (sym (append-nil s.shown.taken)) ∙ s.shown.shown [], refl)

  many : length now.packets ≡ length frames
  many = ap length h.packets ∙ length-map frames packet_of

  counted : (taken : List ℕ) → HasDone (length frames) begun.limits begun.encoder.settings (front ++ (bytes ++ taken)) (work taken)
  counted taken = (done taken, refl)

  are : (taken : List ℕ) → AreFramesOf begun.limits begun.encoder.settings (front ++ (bytes ++ taken)) frames
  are taken = inr (work taken, done taken, refl)

  most : now.limits.packets ≡ begun.limits.packets
  most = ap (λ (l : Limits). l.packets) h.limits

  -- the work ended by this fault behind these pictures, before anything was written
  abbrev EndedBy : EncodeAllFault → List ℕ → Type 0
  EndedBy f taken = AreFramesOf begun.limits begun.encoder.settings (front ++ (bytes ++ taken)) frames
      × ((written : Option (List ℕ)) → IsEndedBehind (length frames) begun.limits begun.encoder.settings f (front ++ (bytes ++ taken)) written written)

  -- the run refuses a picture
  pub refused_behind : (p : Image) (before after : Option (List ℕ)) → (s : GivesPicture head.w head.h p before after)
      → (f : EncodeAllFault) → IsPictureRefused now p f → EndedBy f s.shown.taken
  refused_behind p before after s fault.TooMany r = let taken = s.shown.taken in
      (are taken, λ written. (work taken, p, counted taken, one_more p before after s, sym many ∙ (r ∙ most)))
  refused_behind p before after s fault.TooLong r =
      let room = r.0 in let same = most in let number = many in let taken = s.shown.taken in
      (are taken, λ written. (work taken, p, counted taken, one_more p before after s, omega arith, r.1))
  refused_behind p before after s fault.PacketTooLarge r =
      let room = r.3 in let same = most in let number = many in let taken = s.shown.taken in
      (are taken, λ written. (work taken, r.0, r.1, counted taken, rw r.2 (one_more p before after s), omega arith, r.4, rw (← h.limits) r.5))
  refused_behind p before after s fault.Memory r = let taken = s.shown.taken in (are taken, λ written. inr (work taken, counted taken))
  refused_behind p before after s f r = absurd r

  -- the source has a fault behind these pictures
  pub next_failed : (f : SourceFault) (before after : Option (List ℕ)) → (f ≢ source.Memory → Fails (next_of head.w head.h) f before after)
      → (f ≡ source.Memory → after ≡ before) → (taken : List ℕ) × Consumes before after taken × EndedBy (encode_fault_of f) taken
  next_failed source.Memory before after s m = ([], rw (m refl) (Consumes-nil before), (are [], λ written. inr (work [], counted [])))
  next_failed source.Device before after s m = let t = s (λ e. cc) in (t.0, t.1, (are t.0, λ written. inl (refl, inr (work t.0, counted t.0))))
  next_failed source.Torn before after s m = let t = s (λ e. cc) in (t.taken, t.consumed, (are t.taken, λ written. inr (work t.taken, counted t.taken, t.shown)))
  next_failed f before after s m = let t = s (λ e. cc) in
      (t.taken, t.consumed, (are t.taken, λ written. inr (work t.taken, counted t.taken, ap (next_of head.w head.h) (sym (append-nil t.taken)) ∙ t.shown [])))

  -- all pictures were encoded
  pub ended : (before after : Option (List ℕ)) → ShowsAtEnd (next_of head.w head.h) (Ok None) before after
      → (taken : List ℕ) × Consumes before after taken × IsAtEnd after
      × ((w : Work) × IsDone begun.limits begun.encoder.settings (front ++ (bytes ++ taken)) w × HasAllPictures w × (w.head ≡ head) × HasWorkFrames w now × (w.frames ≡ frames))
  ended before after s =
      (s.taken, s.consumed, s.at_end, (work s.taken, done s.taken, s.shown, refl, record { packets = h.packets; bytes = h.bytes_are; error = h.error }, refl))

-- ---- the head

pub head_failed : (limits : Limits) (settings : Settings) (f : SourceFault) (before after : Option (List ℕ)) → Fails (file_head limits.pixels) f before after
    → (file : List ℕ) × Consumes before after file × ((written : Option (List ℕ)) → IsEndedBehind 0 limits settings (encode_fault_of f) file written written)
head_failed limits settings source.Torn before after s = (s.taken, s.consumed, λ written. inl (s.shown, refl))
head_failed limits settings source.Device before after s = (s.0, s.1, λ written. inl (refl, inl refl))
head_failed limits settings source.Memory before after s = absurd s
head_failed limits settings f before after s = (s.taken, s.consumed, λ written. inl (ap (file_head limits.pixels) (sym (append-nil s.taken)) ∙ s.shown [], refl))

-- the head is whole, and the settings are refused
pub settings_refused : (limits : Limits) (settings : Settings) (head : Head) (before after written : Option (List ℕ)) → (s : Shows (file_head limits.pixels) (λ rest. Ok (head, rest)) before after)
    → ¬ AreAllowed settings → IsEndedBehind 0 limits settings fault.Settings s.taken written written
settings_refused limits settings head before after written s refused =
    (head, ap (file_head limits.pixels) (sym (append-nil s.taken)) ∙ s.shown [], refused, refl)

-- ---- the answers of a source

pub faulty_answer : (head now : Head) (f : SourceFault) (before after : Option (List ℕ)) → now ≡ head
    → (let r : Result (Option Image) SourceFault = Err f in let m : Result (Option Image) SourceFault = Err source.Memory in r ≢ m → AnswersNextPicture now.w now.h r before after)
    → f ≢ source.Memory → Fails (next_of head.w head.h) f before after
faulty_answer head now f before after same a n =
    let P : Head → Type 0 = λ h. Fails (next_of h.w h.h) f before after in subst P same (a (λ e. n cc))

pub given_answer : (head now : Head) (o : Option Image) (p : Image) (before after : Option (List ℕ)) → now ≡ head → o ≡ Some p
    → AnswersNextPicture now.w now.h (Ok o) before after → GivesPicture head.w head.h p before after
given_answer head now o p before after same is a =
    let P : Head → Type 0 = λ h. GivesPicture h.w h.h p before after in
    let Q : Option Image → Type 0 = λ x. AnswersNextPicture now.w now.h (Ok x) before after in
    subst P same (subst Q is a)

pub end_answer : (head now : Head) (o : Option Image) (before after : Option (List ℕ)) → now ≡ head → o ≡ None
    → AnswersNextPicture now.w now.h (Ok o) before after → ShowsAtEnd (next_of head.w head.h) (Ok None) before after
end_answer head now o before after same is a =
    let P : Head → Type 0 = λ h. ShowsAtEnd (next_of h.w h.h) (Ok None) before after in
    let Q : Option Image → Type 0 = λ x. AnswersNextPicture now.w now.h (Ok x) before after in
    subst P same (subst Q is a)

-- ---- the whole file

-- the head, and then what encoding the pictures behind it came to
pub work_ends : (limits : Limits) (settings : Settings) (dim : Dim) (encoder : EncoderState) (run after : EncodeProgress) (told told' : List EncodedSoFar → Type 0) (head : Head) (before mid left : Option (List ℕ)) (result : Result (Unit {0}) EncodeAllFault)
    → run ≡ start limits encoder → encoder ≡ initial_encoder dim settings
    → Shows (file_head limits.pixels) (λ rest. Ok (head, rest)) before mid
    → ((front : List ℕ) → IsHeadLine run.limits.pixels front head → (bytes : List ℕ) × (frames : List EncodedFrame) × Consumes mid left bytes
    × IsWrittenFurther told told' (progress_of_frames frames) × EndsEncode run.limits run.encoder.settings result head (front ++ bytes) frames after)
    → (file : List ℕ) × (frames : List EncodedFrame) × Consumes before left file
    × IsWrittenFurther told told' (progress_of_frames frames) × EndsEncode limits settings result head file frames after
work_ends limits settings dim encoder run after told told' head before mid left result begun opened s ends =
    let same : run.limits ≡ limits = ap (λ (r : EncodeProgress). r.limits) begun in
    let set : run.encoder.settings ≡ settings = ap (λ (r : EncodeProgress). r.encoder.settings) begun ∙ ap (λ (e : EncoderState). e.settings) opened in
    let line : IsHeadLine run.limits.pixels s.taken head = subst (λ (l : Limits). IsHeadLine l.pixels s.taken head) (sym same) s.shown in
    let e = ends s.taken line in
    let E : Limits → Settings → Type 0 = λ l x. EndsEncode l x result head (s.taken ++ e.0) e.1 after in (
      s.taken ++ e.0,
      e.1,
      Consumes-trans before mid left s.taken e.0 s.consumed e.2,
      e.3,
      subst (λ (l : Limits). E l settings) same (subst (E run.limits) set e.4),
    )

-- ---- no more reads than these

abbrev each : Head → ℕ
each h = 1025 + i420_length h.w h.h

pub few_now : (head : Head) (begun now : EncodeProgress) (bytes : List ℕ) (frames : List EncodedFrame) → IsAt head begun now bytes frames → length now.packets ≤ begun.limits.packets
few_now head begun now bytes frames h =
    let many = ap length h.packets ∙ length-map frames packet_of in
    omega arith

-- those of one more picture
pub within_more : (n most : ℕ) (head now : Head) (old mid new : ℕ) → n ≤ most → now ≡ head → mid ≤ old + n * each head → new ≤ mid + each now → new ≤ old + (most + 1) * each head
within_more n most head now old mid new le same before more =
    let e : each now ≡ each head = ap each same in
    let fits = row_fits n (each head) (most + 1) (each head) (omega arith) (omega arith) in
    omega arith

pub within_next : (head now : Head) (old mid new : ℕ) (run next : EncodeProgress) (f : EncodedFrame) → now ≡ head → IsAdded run f next
    → mid ≤ old + length run.packets * each head → new ≤ mid + each now → new ≤ old + length next.packets * each head
within_next head now old mid new run next f same added before more =
    let many : length next.packets ≡ length run.packets + 1 = ap length added.packets ∙ length-append run.packets (f.packet ∷ []) in
    subst (λ (n : ℕ). new ≤ old + n * each head) (sym many)
    (within_more (length run.packets) (length run.packets) head now old mid new (omega arith) same before more)

half_fits : (n : ℕ) → (n + 1) / 2 ≤ n
half_fits n = omega arith

i420_fits : (w h pixels : ℕ) → w * h ≤ pixels → i420_length w h ≤ 3 * pixels
i420_fits w h pixels small =
    let halves = mul-le ((w + 1) / 2) ((h + 1) / 2) w h (half_fits w) (half_fits h) in
    omega arith

-- those of the line and of all pictures
pub within_limits : (limits now : Limits) (head : Head) (old mid new : ℕ) → now ≡ limits → head.w * head.h ≤ limits.pixels
    → mid ≤ old + 1025 → new ≤ mid + (now.packets + 1) * each head → new ≤ old + most_reads limits
within_limits limits now head old mid new same small line pictures =
    let n : (now.packets + 1) * each head ≡ (limits.packets + 1) * each head = λ i. ((same i).packets + 1) * each head in
    let fits : each head ≤ 1025 + 3 * limits.pixels = let f = i420_fits head.w head.h limits.pixels small in omega arith in
    let all = mul-le (limits.packets + 1) (each head) (limits.packets + 1) (1025 + 3 * limits.pixels) (omega arith) fits in
    omega arith

module _ (limits : Limits) (settings : Settings) (head : Head) (file : List ℕ) (frames : List EncodedFrame) (after : EncodeProgress) (packets : List (List ℕ)) (same : packets ≡ after.packets)
    (e : (w : Work) × IsDone limits settings file w × HasAllPictures w × (w.head ≡ head) × HasWorkFrames w after × (w.frames ≡ frames)) where
  packets_are : packets ≡ map packet_of e.0.frames
  packets_are = same ∙ e.4.packets

  pub all_small : All (λ p. length p < 2 ^ 32) packets
  all_small =
      let P : List ℕ → Type 0 = λ p. length p < 2 ^ 32 in
      All-same P packets (map packet_of e.0.frames) packets_are
      (All-map P packet_of e.0.frames
      (All-weaker (λ (f : EncodedFrame). length f.packet ≤ limits.packet_bytes) (λ (f : EncodedFrame). length f.packet < 2 ^ 32) (λ f h. omega arith) e.0.frames e.1.small))

  -- as many packets as pictures
  all_counted : length after.packets ≡ length e.0.frames
  all_counted = ap length e.4.packets ∙ length-map e.0.frames packet_of

  pub all_frames : AreFramesOf limits settings file frames
  all_frames = inr (e.0, e.1, e.5)

  text_is : ivf_text head packets ≡ encoded_file e.0
  text_is = ap (λ (h : Head). ivf_text h packets) (sym e.3) ∙ ap (ivf_text e.0.head) packets_are

  pub written_front : (before now : Option (List ℕ)) → AppendsPrefix before now (ivf_text head packets) → IsEndedBehind (length frames) limits settings fault.Device file before now
  written_front before now w = let P : List ℕ → Type 0 = λ t. AppendsPrefix before now t in inr (e.0, (e.1, ap length e.5), e.2, subst P text_is w)

  pub written_whole : (before now : Option (List ℕ)) (report : EncodeReport) → report ≡ record { frames = length after.packets; error = after.error }
      → Appends before now (ivf_text head packets) → IsAnswerBehind (length frames) limits settings (Ok report) file before now
  written_whole before now report is w = let P : List ℕ → Type 0 = λ t. Appends before now t in (
    record {
      work = e.0;
      done = e.1;
      whole = e.2;
      frames = ap (λ (r : EncodeReport). r.frames) is ∙ all_counted;
      error = ap (λ (r : EncodeReport). r.error) is ∙ e.4.error;
      writes = subst P text_is w;
    },
    ap (λ (r : EncodeReport). r.frames) is ∙ (all_counted ∙ ap length e.5),
  )

  pub reported_whole : (report : EncodeReport) → report ≡ record { frames = length after.packets; error = after.error } → report ≡ frames_report frames
  reported_whole report is =
      let same : ◌≡◌ {A = EncodeReport} (record { frames = length after.packets; error = after.error }) (frames_report e.0.frames) =
      λ i. record { frames = all_counted i; error = e.4.error i } in
      is ∙ (same ∙ ap frames_report e.5)

-- ---- the answer

device_by : (f : SourceFault) → encode_fault_of f ≡ fault.Device → f ≡ source.Device
device_by source.Device e = refl
device_by f e = cc

-- what is known of a head that could not be read, by the fault of encoding
pub head_end : (pixels : ℕ) (f : SourceFault) (before after : Option (List ℕ)) → Fails (file_head pixels) f before after → encode_fault_of f ≡ fault.Torn → IsAtEnd after
head_end pixels source.Torn before after s e = s.at_end
head_end pixels f before after s e = cc

pub head_device : {A : Type 0} (f : SourceFault) (n m : ℕ) → (let r : Result A SourceFault = Err f in r ≡ Err source.Device → HasFailed n m) → encode_fault_of f ≡ fault.Device → HasFailed n m
head_device f n m device e = device (ap Err (device_by f e))

pub head_quiet : {A : Type 0} (f : SourceFault) (n m : ℕ) → (let r : Result A SourceFault = Err f in r ≢ Err source.Device → m ≡ n) → encode_fault_of f ≢ fault.Device → m ≡ n
head_quiet f n m quiet other = quiet (λ e. other (let same : f ≡ source.Device = cc in ap encode_fault_of same))

module _ {R W : Type 0} (remaining : R → Option (List ℕ)) (contents : W → Option (List ℕ)) (limits : Limits) (settings : Settings)
    (result : Result EncodeReport EncodeAllFault) (reader reader' : Counted R) (writer writer' : Counted W) (told told' : List EncodedSoFar → Type 0) where
  abbrev Answers : Type 0
  Answers = IsAnswerOver remaining contents limits settings result reader reader' writer writer'
      × IsWatched remaining contents limits settings result reader reader' writer writer' told told'

  -- the work ended by a fault, behind these frames
  pub failed : (f : EncodeAllFault) → result ≡ Err f → (frames : List EncodedFrame) → IsWrittenFurther told told' (progress_of_frames frames)
      → (file : List ℕ) → Consumes (counted_remaining remaining reader) (counted_remaining remaining reader') file → AreFramesOf limits settings file frames
      → IsEndedBehind (length frames) limits settings f file (counted_contents contents writer) (counted_contents contents writer') → (f ≢ fault.Device → writer' ≡ writer)
      → (f ≡ fault.Torn → IsAtEnd (counted_remaining remaining reader'))
      → (f ≡ fault.Device → HasFailed (counted_failures reader) (counted_failures reader') ⊎ HasFailed (counted_failures writer) (counted_failures writer'))
      → (f ≢ fault.Device → counted_failures reader' ≡ counted_failures reader) → Answers
  failed f is frames further file consumed are ended unwritten torn device quiet =
      let other : result ≢ Err fault.Device → f ≢ fault.Device = λ n e. n (is ∙ ap Err e) in (
        record {
          file = file;
          consumed = consumed;
          answer = rw is (length frames, ended);
          unwritten = λ g same n. unwritten (λ e. n cc);
          end = rw is tt;
          torn = λ e. torn cc;
          device = λ e. device cc;
          quiet = λ n. (quiet (other n), ap counted_failures (unwritten (other n)));
        },
        record { frames = frames; told = further; file = file; consumed = consumed; encoded = are; answer = rw is ended; reported = rw is tt },
      )

  -- all is encoded and written
  pub finished : (report : EncodeReport) → result ≡ Ok report → (frames : List EncodedFrame) → IsWrittenFurther told told' (progress_of_frames frames)
      → (file : List ℕ) → Consumes (counted_remaining remaining reader) (counted_remaining remaining reader') file → AreFramesOf limits settings file frames
      → IsAnswerBehind (length frames) limits settings (Ok report) file (counted_contents contents writer) (counted_contents contents writer') → report ≡ frames_report frames
      → IsAtEnd (counted_remaining remaining reader') → counted_failures reader' ≡ counted_failures reader → counted_failures writer' ≡ counted_failures writer → Answers
  finished report is frames further file consumed are whole reported at_end read written = (
    record {
      file = file;
      consumed = consumed;
      answer = rw is whole.0;
      unwritten = λ f e n. cc;
      end = rw is at_end;
      torn = λ e. cc;
      device = λ e. cc;
      quiet = λ n. (read, written);
    },
    record { frames = frames; told = further; file = file; consumed = consumed; encoded = are; answer = rw is whole; reported = rw is reported },
  )
