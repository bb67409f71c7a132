-- The outcomes of a file's packets are told, one after another.
use Rattle.std.proofs.Common.{◌≡◌, ℕ, ◌+◌, ◌-◌, ◌<◌, List, [], ◌∷◌, ◌++◌, length, map, Option, None, refl, sym, ap, ◌∙◌, arith}
use Rattle.std.specs.List.{zip}
use Rattle.std.proofs.lemmas.List.{length-append, map-append}
use Rattle.vp_base.specs.declared.limits.Limits.{Limits}
use Rattle.vp_ivf.specs.declared.packet.Packet.{Packet}
use Rattle.vp_ivf.specs.declared.packet.IvfHead.{IvfHead}
use Rattle.vp_ivf.specs.declared.fault.FileFault.{FileFault}
use Rattle.vp_ivf.specs.Ivf.{Contents}
use Rattle.vp_decode.specs.declared.decoder.Outcome.{Outcome}
use Rattle.vp_decode.specs.Outcomes.{OutcomeReader, reader_at}
use Rattle.vp_decode.specs.Step.{DecoderState, Answer, step, outcome}
use Rattle.vp_stream.specs.declared.form.Form.TheVariants.{I420}
use Rattle.vp_stream.specs.Answers.{answers_from}
use Rattle.vp_stream.specs.Reports.{outcomes}
use Rattle.vp_stream.specs.PacketReader.{PacketReader, IsReading, EndsReading}
use Rattle.vp_stream.specs.Transcode.{TranscodeState, fresh, after_packet, after_packets, answer_to}
use Rattle.vp_stream.specs.Written.{IsSurveyed}
use Rattle.vp_stream.proofs.CountLemmas.{count-read}
use Rattle.vp_stream.proofs.ReportLemmas.{after_packets-append, answers_to-append, length-answers_to}

-- the state of a decoder after these packets
abbrev pub state_after : Limits → List Packet → Option DecoderState
state_after limits given = (after_packets (fresh limits I420) given).state

-- these bytes were read, and these packets of them were told
pub record IsTold (limits : Limits) (file : PacketReader) (reader : OutcomeReader) (told : List (ℕ × Outcome)) (fed : List ℕ) (given : List Packet) : Type 0 where
  pub reading : IsReading limits file fed given
  pub beside : reader ≡ reader_at limits (state_after limits given)
  pub is_told : told ≡ outcomes given (answers_from limits None given)

zip-last : {A B : Type 0} (xs : List A) (ys : List B) (x : A) (y : B) → length xs ≡ length ys → zip (xs ++ x ∷ []) (ys ++ y ∷ []) ≡ zip xs ys ++ (x, y) ∷ []
zip-last [] [] x y e = refl
zip-last [] (b ∷ ys) x y e = absurd (omega (arith, e))
zip-last (a ∷ xs) [] x y e = absurd (omega (arith, e))
zip-last (a ∷ xs) (b ∷ ys) x y e = ap (λ zs. (a, b) ∷ zs) (zip-last xs ys x y (omega (arith, e)))

length_zip : {A B : Type 0} (xs : List A) (ys : List B) → length xs ≡ length ys → length (zip xs ys) ≡ length xs
length_zip [] ys e = refl
length_zip (a ∷ xs) [] e = absurd (omega (arith, e))
length_zip (a ∷ xs) (b ∷ ys) e = let more = length_zip xs ys (omega (arith, e)) in omega arith

length_map : {A B : Type 0} (f : A → B) (xs : List A) → length (map f xs) ≡ length xs
length_map f [] = refl
length_map f (x ∷ xs) = let more = length_map f xs in omega arith

abbrev size_in : Packet → ℕ
size_in p = length p.bytes

same_length : (limits : Limits) (given : List Packet) → length (map size_in given) ≡ length (map outcome (answers_from limits None given))
same_length limits given = length_map size_in given ∙ (sym (length-answers_to (fresh limits I420) given) ∙ sym (length_map outcome (answers_from limits None given)))

told_next : (limits : Limits) (given : List Packet) (packet : Packet) → outcomes (given ++ packet ∷ []) (answers_from limits None (given ++ packet ∷ []))
    ≡ outcomes given (answers_from limits None given) ++ (length packet.bytes, outcome (answer_to (after_packets (fresh limits I420) given) packet.bytes)) ∷ []
told_next limits given packet =
    let first = answers_from limits None given in
    let one = answer_to (after_packets (fresh limits I420) given) packet.bytes in
    ap (λ (as_told : List Answer). outcomes (given ++ packet ∷ []) as_told) (answers_to-append (fresh limits I420) given (packet ∷ []))
    ∙ (ap (λ ns. zip ns (map outcome (first ++ one ∷ []))) (map-append size_in given (packet ∷ []))
    ∙ (ap (λ os. zip (map size_in given ++ length packet.bytes ∷ []) os) (map-append outcome first (one ∷ []))
    ∙ zip-last (map size_in given) (map outcome first) (length packet.bytes) (outcome one) (same_length limits given)))

limits_kept : (r : TranscodeState) (ps : List Packet) → (after_packets r ps).limits ≡ r.limits
limits_kept r [] = refl
limits_kept r (p ∷ ps) = limits_kept (after_packet r p.bytes) ps

module _ (limits : Limits) (source : PacketReader) (reader : OutcomeReader) (told : List (ℕ × Outcome)) (fed more : List ℕ) (given : List Packet)
    (h : IsTold limits source reader told fed given) where
  -- all packets were told
  pub surveyed : (s : PacketReader) (left : Option (List ℕ)) (fault : Option FileFault) (head : Option IvfHead) → EndsReading limits s left (fed ++ more) given fault → head ≡ s.file.reading.head
      → IsSurveyed limits (record { head = head; packets = told; fault = fault }) (fed ++ more)
  surveyed s left fault head e is = record {
    head = is ∙ e.head;
    packets = h.is_told ∙ ap (λ (ps : List Packet). outcomes ps (answers_from limits None ps)) (sym e.packets);
    fault = e.answer;
  }

  module _ (packet : Packet) (later : PacketReader) (r : IsReading limits later (fed ++ more) (given ++ packet ∷ [])) where
    pub room : length told < limits.packets
    room =
        let counted : length told ≡ length given = ap length h.is_told ∙ (length_zip (map size_in given) (map outcome (answers_from limits None given)) (same_length limits given) ∙ length_map size_in given) in
        let all = ap (λ (x : Contents). length x.packets) r.reading ∙ length-append (given ++ packet ∷ []) later.file.reading.packets in
        let one = length-append given (packet ∷ []) in
        let most = count-read limits.packet_bytes limits.packets (fed ++ more) in
        omega arith

    -- one packet more
    pub told_on : (last : OutcomeReader) (now : List (ℕ × Outcome))
        → last ≡ reader_at limits (step limits (state_after limits given) packet.bytes).0
        → now ≡ told ++ (length packet.bytes, outcome (step limits (state_after limits given) packet.bytes).1) ∷ []
        → IsTold limits later last now (fed ++ more) (given ++ packet ∷ [])
    told_on last now is_last is_now =
        let p = after_packets (fresh limits I420) given in
        let same : step limits p.state packet.bytes ≡ step p.limits p.state packet.bytes =
        ap (λ (l : Limits). step l p.state packet.bytes) (sym (limits_kept (fresh limits I420) given)) in
        record {
          reading = r;
          beside = is_last ∙ ap (reader_at limits) (ap (λ (x : Option DecoderState × Answer). x.0) same
              ∙ ap (λ (q : TranscodeState). q.state) (sym (after_packets-append (fresh limits I420) given (packet ∷ []))));
          is_told = is_now ∙ (ap (λ (x : Option DecoderState × Answer). told ++ (length packet.bytes, outcome x.1) ∷ []) same
              ∙ (ap (λ xs. xs ++ (length packet.bytes, outcome (answer_to p packet.bytes)) ∷ []) h.is_told ∙ sym (told_next limits given packet)));
        }

-- each packet is told, so fewer may come
pub fewer_told : (limit : ℕ) (told now : List (ℕ × Outcome)) (x : ℕ × Outcome) → now ≡ told ++ x ∷ [] → length told < limit → limit - length now < limit - length told
fewer_told limit told now x is room =
    let one : length now ≡ length told + 1 = ap length is ∙ length-append told (x ∷ []) in
    omega arith
