-- A file's packets are decoded, one after another, and their text is written.
use Rattle.std.proofs.Common.{◌≡◌, ℕ, ◌+◌, ◌-◌, ◌<◌, true, false, List, [], ◌∷◌, ◌++◌, length, Option, Some, None, refl, sym, ap, subst, ◌∙◌, arith, inl, inr}
use Rattle.std.specs.Option.{option_to_list}
use Rattle.std.specs.Io.KnownBytes.{Appends}
use Rattle.std.proofs.lemmas.List.{length-append}
use Rattle.std.proofs.lemmas.List.Elements.{filter_map-append}
use Rattle.vp_base.specs.declared.limits.Limits.{Limits}
use Rattle.vp_base.specs.Image.{Image}
use Rattle.vp_base.specs.Counted.{AppendsPrefix}
use Rattle.vp_base.proofs.Writes.{appends_none, appends_both, front_first, front_second}
use Rattle.vp_ivf.specs.declared.packet.Packet.{Packet}
use Rattle.vp_ivf.specs.declared.packet.IvfHead.{IvfHead}
use Rattle.vp_ivf.specs.declared.fault.FileFault.{FileFault}
use Rattle.vp_ivf.specs.Ivf.{Contents}
use Rattle.vp_ivf.proofs.Growing.{keeps_head}
use Rattle.vp_decode.specs.declared.decoder.Outcome.{Outcome}
use Rattle.vp_decode.specs.declared.decoder.Outcome.TheVariants as code
use Rattle.vp_decode.specs.Step.{picture_in, outcome}
use Rattle.vp_stream.specs.declared.form.Form.{Form}
use Rattle.vp_stream.specs.declared.form.Form.TheVariants.{I420, Y4m}
use Rattle.vp_stream.specs.declared.report.Report.{Report}
use Rattle.vp_stream.specs.declared.fault.DecodeFault.TheVariants.{File}
use Rattle.vp_stream.specs.declared.fault.SurveyFault.{SurveyFault}
use Rattle.vp_stream.specs.declared.fault.SurveyFault.TheVariants as reading
use Rattle.vp_stream.specs.declared.fault.Interruption.{Interruption}
use Rattle.vp_stream.specs.declared.fault.Interruption.TheVariants as interrupted
use Rattle.vp_stream.specs.Answers.{answers_from, reading_of}
use Rattle.vp_stream.specs.Texts.{shown_in, text, decoded_text, pictures_of, changes_size}
use Rattle.vp_stream.specs.Reports.{report_of}
use Rattle.vp_stream.specs.PacketReader.{PacketReader, IsReading, IsFront, IsStoppedBy, AreGivenAt, EndsReading, before_first_read}
use Rattle.vp_stream.specs.Transcode.{PictureWriter, TranscodeState, with_outcome, fresh, after_packet, after_packets, answers_to, answer_to, picture_to, with_shown, fits_shown, shown_text, decode_fault_of, read_fault_by}
use Rattle.vp_stream.specs.Written.{WritesText, WritesPrefix, WritesAll, IsDecodeReported, IsDecodeEndedBy}
use Rattle.vp_stream.proofs.CountLemmas.{count-read}
use Rattle.vp_stream.proofs.IncomingLemmas.{at_start, headless}
use Rattle.vp_stream.proofs.ReportLemmas.{after_packets-append, answers_to-append, packets_counted, report_of_packets}
use Rattle.vp_stream.proofs.TextLemmas.{sized, size_more, change_more, text_more, change_stays, text_stays, text_front, unfit, shown_more}

-- the pictures of packets that are shown
abbrev pub shown_of : Limits → List Packet → List Image
shown_of limits packets = shown_in (answers_from limits None packets)

-- these bytes were read, these packets of them were decoded, there is a place for each of their pictures, and their text was written
pub record IsAt (limits : Limits) (form : Form) (file : PacketReader) (run : TranscodeState) (before now : Option (List ℕ)) (fed : List ℕ) (given : List Packet) : Type 0 where
  pub reading : IsReading limits file fed given
  pub progress : run ≡ after_packets (fresh limits form) given
  pub sizing : run.sizing ≡ sized form (shown_of limits given)
  pub sizes : changes_size form (shown_of limits given) ≡ false
  pub writes : Appends before now (text form (reading_of limits fed).head (shown_of limits given))

-- ---- the pictures of more packets

front_shown : (limits : Limits) (form : Form) (given later : List Packet)
    → shown_of limits (given ++ later) ≡ shown_of limits given ++ shown_in (answers_to (after_packets (fresh limits form) given) later)
front_shown limits form given later =
    ap shown_in (answers_to-append (fresh limits form) given later)
    ∙ filter_map-append picture_in (answers_from limits None given) (answers_to (after_packets (fresh limits form) given) later)

next_shown : (limits : Limits) (form : Form) (given : List Packet) (packet : Packet)
    → shown_of limits (given ++ packet ∷ []) ≡ shown_of limits given ++ option_to_list (picture_to (after_packets (fresh limits form) given) packet.bytes)
next_shown limits form given packet =
    ap shown_in (answers_to-append (fresh limits form) given (packet ∷ []))
    ∙ shown_more (answers_from limits None given) (answer_to (after_packets (fresh limits form) given) packet.bytes)

-- ---- the text so far in a file that goes on

no_text : (form : Form) (h k : Option IvfHead) → text form h [] ≡ text form k []
no_text I420 h k = refl
no_text Y4m h k = refl

text_by : (limits : Limits) (form : Form) (h k : Option IvfHead) (given : List Packet) → (h ≡ None → given ≡ []) → ((x : IvfHead) → h ≡ Some x → k ≡ Some x)
    → text form k (shown_of limits given) ≡ text form h (shown_of limits given)
text_by limits form None k given none some =
    let e = none refl in
    ap (λ (ps : List Packet). text form k (shown_of limits ps)) e
    ∙ (no_text form k None ∙ sym (ap (λ (ps : List Packet). text form None (shown_of limits ps)) e))
text_by limits form (Some x) k given none some = ap (λ (h : Option IvfHead). text form h (shown_of limits given)) (some x refl)

nil_front : (given ps : List Packet) → given ++ ps ≡ [] → given ≡ []
nil_front [] ps e = refl
nil_front (p ∷ given) ps e = cc

-- the head that stood when the text was written stands
same_text : (limits : Limits) (form : Form) (s : PacketReader) (fed more : List ℕ) (given : List Packet) → IsReading limits s fed given
    → text form (reading_of limits (fed ++ more)).head (shown_of limits given) ≡ text form (reading_of limits fed).head (shown_of limits given)
same_text limits form s fed more given h =
    text_by limits form (reading_of limits fed).head (reading_of limits (fed ++ more)).head given
    (λ none. nil_front given s.file.reading.packets (ap (λ (r : Contents). r.packets) (sym h.reading) ∙ headless limits fed none))
    (λ x e. keeps_head limits.packet_bytes limits.packets fed more x e)

-- the text of the first packets is a front of the file's
text_of_front : (limits : Limits) (form : Form) (file : List ℕ) (given : List Packet) → IsFront limits file given
    → (back : List ℕ) × (decoded_text limits form file ≡ text form (reading_of limits file).head (shown_of limits given) ++ back)
text_of_front limits form file given f =
    let head = (reading_of limits file).head in
    let others = shown_in (answers_to (after_packets (fresh limits form) given) f.0) in
    let more = text_front form head (shown_of limits given) others in
    (more.0, ap (λ (ps : List Packet). text form head (shown_of limits ps)) f.1 ∙ (ap (text form head) (front_shown limits form given f.0) ∙ more.1))

first_sizing : (form : Form) → let s : PictureWriter = record { form = form; size = None } in s ≡ sized form []
first_sizing I420 = refl
first_sizing Y4m = refl

first_sizes : (form : Form) → changes_size form [] ≡ false
first_sizes I420 = refl
first_sizes Y4m = refl

first_text : (form : Form) (k : Option IvfHead) → text form k [] ≡ []
first_text I420 k = refl
first_text Y4m k = refl

pub at_first : (file : PacketReader) (run : TranscodeState) (now : Option (List ℕ)) → file ≡ before_first_read run.limits → run ≡ fresh run.limits run.sizing.form
    → IsAt run.limits run.sizing.form file run now now [] []
at_first file run now unread unrun =
    let P : List ℕ → Type 0 = λ xs. Appends now now xs in
    record {
      reading = subst (λ (s : PacketReader). IsReading run.limits s [] []) (sym unread) (at_start run.limits);
      progress = unrun;
      sizing = ap (λ (r : TranscodeState). r.sizing) unrun ∙ first_sizing run.sizing.form;
      sizes = first_sizes run.sizing.form;
      writes = subst P (sym (first_text run.sizing.form (reading_of run.limits []).head)) (appends_none now);
    }

nothing_in : (xs ys : List ℕ) → xs ++ ys ≡ [] → xs ≡ []
nothing_in [] ys e = refl
nothing_in (x ∷ xs) ys e = cc

-- a front of nothing is nothing
front_of_none : (a b : Option (List ℕ)) (xs : List ℕ) → xs ≡ [] → AppendsPrefix a b xs → Appends a b []
front_of_none a b xs e w =
    let P : List ℕ → Type 0 = λ ys. Appends a b ys in
    subst P (nothing_in w.0 w.1 (sym w.2 ∙ e)) w.3

module _ (limits : Limits) (form : Form) (source : PacketReader) (run : TranscodeState) (before now : Option (List ℕ)) (fed more : List ℕ) (given : List Packet)
    (h : IsAt limits form source run before now fed given) where
  so_far : Appends before now (text form (reading_of limits (fed ++ more)).head (shown_of limits given))
  so_far = let P : List ℕ → Type 0 = λ xs. Appends before now xs in
      subst P (sym (same_text limits form source fed more given h.reading)) h.writes

  stopped : IsFront limits (fed ++ more) given → WritesPrefix limits form (fed ++ more) before now
  stopped f =
      let whole = text_of_front limits form (fed ++ more) given f in
      (text form (reading_of limits (fed ++ more)).head (shown_of limits given), whole.0, whole.1, so_far)

  all_written : (reading_of limits (fed ++ more)).packets ≡ given → WritesAll limits form (fed ++ more) before now
  all_written all =
      let P : List Packet → Type 0 = λ ps. Appends before now (text form (reading_of limits (fed ++ more)).head (shown_of limits ps)) in
      (ap (λ (ps : List Packet). changes_size form (shown_of limits ps)) all ∙ h.sizes, subst P (sym all) so_far)

  -- a read fails, or the reads run out, or memory is refused
  pub failed : (W : Type 0) (f : SurveyFault) → IsStoppedBy f (fed ++ more) × AreGivenAt f limits (fed ++ more) given
      → IsDecodeEndedBy limits form (read_fault_by f) W (fed ++ more) before now
  failed W reading.Device p = inl (all_written p.1)
  failed W reading.ReadTurns p = (p.0, all_written p.1)
  failed W reading.Memory p = stopped p.1

  pub reported : (s : PacketReader) (left : Option (List ℕ)) → EndsReading limits s left (fed ++ more) given None → IsDecodeReported limits form run.report (fed ++ more) before now
  reported s left e = record {
    ends = e.answer;
    counts = ap (λ (r : TranscodeState). r.report) h.progress ∙ (report_of_packets limits form given
        ∙ ap (λ (ps : List Packet). report_of (answers_from limits None ps)) (sym e.packets));
    writes = all_written e.packets;
  }

  pub faulty : (W : Type 0) (fault : FileFault) (s : PacketReader) (left : Option (List ℕ)) → EndsReading limits s left (fed ++ more) given (Some fault)
      → IsDecodeEndedBy limits form (File fault) W (fed ++ more) before now
  faulty W fault s left e = (e.answer, all_written e.packets)

  module _ (packet : Packet) (head : IvfHead) (later : PacketReader)
      (r : IsReading limits later (fed ++ more) (given ++ packet ∷ []) × ((reading_of limits (fed ++ more)).head ≡ Some head)) where
    -- the packet can be counted
    pub room : run.report.packets < limits.packets
    room =
        let counted : run.report.packets ≡ length given = ap (λ (p : TranscodeState). p.report.packets) h.progress ∙ packets_counted limits form given in
        let all = ap (λ (x : Contents). length x.packets) r.0.reading ∙ length-append (given ++ packet ∷ []) later.file.reading.packets in
        let one = length-append given (packet ∷ []) in
        let most = count-read limits.packet_bytes limits.packets (fed ++ more) in
        omega arith

    -- with its picture
    with_next : shown_of limits (given ++ packet ∷ []) ≡ shown_of limits given ++ option_to_list (picture_to run packet.bytes)
    with_next = next_shown limits form given packet
        ∙ ap (λ (p : TranscodeState). shown_of limits given ++ option_to_list (picture_to p packet.bytes)) (sym h.progress)

    text_next : text form (reading_of limits (fed ++ more)).head (shown_of limits (given ++ packet ∷ []))
        ≡ text form (reading_of limits (fed ++ more)).head (shown_of limits given) ++ shown_text run.sizing head (picture_to run packet.bytes)
    text_next =
        ap (text form (reading_of limits (fed ++ more)).head) with_next
        ∙ (ap (λ (k : Option IvfHead). text form k (shown_of limits given ++ option_to_list (picture_to run packet.bytes))) r.1
        ∙ (text_more form head (shown_of limits given) (picture_to run packet.bytes) h.sizes
        ∙ (ap (λ (k : Option IvfHead). text form k (shown_of limits given) ++ shown_text (sized form (shown_of limits given)) head (picture_to run packet.bytes)) (sym r.1)
        ∙ ap (λ (s : PictureWriter). text form (reading_of limits (fed ++ more)).head (shown_of limits given) ++ shown_text s head (picture_to run packet.bytes)) (sym h.sizing))))

    abbrev is_front : IsFront limits (fed ++ more) (given ++ packet ∷ [])
    is_front = (later.file.reading.packets, ap (λ (x : Contents). x.packets) r.0.reading)

    cut_front : (written : Option (List ℕ)) → AppendsPrefix now written (shown_text run.sizing head (picture_to run packet.bytes)) → WritesPrefix limits form (fed ++ more) before written
    cut_front written w =
        let so = text form (reading_of limits (fed ++ more)).head (shown_of limits given) in
        let one = shown_text run.sizing head (picture_to run packet.bytes) in
        let whole = text_of_front limits form (fed ++ more) (given ++ packet ∷ []) is_front in
        let P : List ℕ → Type 0 = λ xs. AppendsPrefix before written xs in
        subst P (sym (whole.1 ∙ ap (λ xs. xs ++ whole.0) text_next))
        (front_first before written (so ++ one) whole.0 (front_second before now written so one so_far w))

    changed : (written : Option (List ℕ)) → fits_shown run.sizing (picture_to run packet.bytes) ≡ false
        → AppendsPrefix now written (shown_text run.sizing head (picture_to run packet.bytes))
        → (changes_size form (pictures_of limits (fed ++ more)) ≡ true) × WritesText limits form (fed ++ more) before written
    changed written no_room w =
        let k = (reading_of limits (fed ++ more)).head in
        let so = text form k (shown_of limits given) in
        let one = shown_text run.sizing head (picture_to run packet.bytes) in
        let others = shown_in (answers_to (after_packets (fresh limits form) (given ++ packet ∷ [])) later.file.reading.packets) in
        let all : pictures_of limits (fed ++ more) ≡ shown_of limits (given ++ packet ∷ []) ++ others =
        ap (shown_of limits) is_front.1 ∙ front_shown limits form (given ++ packet ∷ []) later.file.reading.packets in
        let now_changed : changes_size form (shown_of limits (given ++ packet ∷ [])) ≡ true =
        ap (changes_size form) with_next ∙ change_more form (shown_of limits given) (picture_to run packet.bytes) false h.sizes
        (ap (λ (s : PictureWriter). fits_shown s (picture_to run packet.bytes)) (sym h.sizing) ∙ no_room) in
        let nothing : one ≡ [] = unfit run.sizing head (picture_to run packet.bytes) no_room in
        let same : decoded_text limits form (fed ++ more) ≡ so ++ [] =
        ap (text form k) all ∙ (text_stays form k (shown_of limits (given ++ packet ∷ [])) others now_changed ∙ (text_next ∙ ap (λ xs. so ++ xs) nothing)) in
        let P : List ℕ → Type 0 = λ xs. Appends before written xs in (
          ap (changes_size form) all ∙ change_stays form (shown_of limits (given ++ packet ∷ [])) others now_changed,
          subst P (sym same) (appends_both before now written so [] so_far (front_of_none now written one nothing w)),
        )

    -- decoding or writing stops
    pub cut : (W : Type 0) (i : Interruption) (written : Option (List ℕ))
        → (i ≡ interrupted.Device → W)
        → (i ≡ interrupted.SizeChange → fits_shown run.sizing (picture_to run packet.bytes) ≡ false)
        → AppendsPrefix now written (shown_text run.sizing head (picture_to run packet.bytes))
        → IsDecodeEndedBy limits form (decode_fault_of i) W (fed ++ more) before written
    cut W interrupted.SizeChange written fails change w = changed written (change refl) w
    cut W interrupted.Device written fails change w = inr (fails refl, cut_front written w)
    cut W interrupted.Memory written fails change w = cut_front written w

    -- the packet is decoded, and its text is written
    pub goes_on : (after : TranscodeState) (written : Option (List ℕ)) → after ≡ after_packet run packet.bytes
        → fits_shown run.sizing (picture_to run packet.bytes) ≡ true
        → Appends now written (shown_text run.sizing head (picture_to run packet.bytes))
        → IsAt limits form later after before written (fed ++ more) (given ++ packet ∷ [])
    goes_on after written is fit w =
        let so = text form (reading_of limits (fed ++ more)).head (shown_of limits given) in
        let one = shown_text run.sizing head (picture_to run packet.bytes) in
        let P : List ℕ → Type 0 = λ xs. Appends before written xs in
        record {
          reading = r.0;
          progress = is ∙ (ap (λ (p : TranscodeState). after_packet p packet.bytes) h.progress ∙ sym (after_packets-append (fresh limits form) given (packet ∷ [])));
          sizing = ap (λ (p : TranscodeState). p.sizing) is
              ∙ (ap (λ (s : PictureWriter). with_shown s (picture_to run packet.bytes)) h.sizing
              ∙ (size_more form (shown_of limits given) (picture_to run packet.bytes) ∙ ap (sized form) (sym with_next)));
          sizes = ap (changes_size form) with_next ∙ change_more form (shown_of limits given) (picture_to run packet.bytes) true h.sizes
              (ap (λ (s : PictureWriter). fits_shown s (picture_to run packet.bytes)) (sym h.sizing) ∙ fit);
          writes = subst P (sym text_next) (appends_both before now written so one so_far w);
        }

one_more : (r : Report) (o : Outcome) → (with_outcome r o).packets ≡ r.packets + 1
one_more r code.Shown = refl
one_more r code.Hidden = refl
one_more r (code.Fault f) = refl

-- each packet is counted, so fewer may come
pub fewer_left : (limit : ℕ) (run after : TranscodeState) (packet : List ℕ) → after ≡ after_packet run packet → run.report.packets < limit
    → limit - after.report.packets < limit - run.report.packets
fewer_left limit run after packet is room =
    let one : after.report.packets ≡ run.report.packets + 1 = ap (λ (p : TranscodeState). p.report.packets) is ∙ one_more run.report (outcome (answer_to run packet)) in
    omega arith
