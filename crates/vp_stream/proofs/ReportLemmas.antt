-- The answers for packets, and the report of them.
use Rattle.std.proofs.Common.{◌≡◌, ℕ, cond, ◌+◌, List, [], ◌∷◌, ◌++◌, length, None, refl, sym, ap, ◌∙◌, append_assoc, arith}
use Rattle.std.specs.Prelude.{count_by}
use Rattle.std.proofs.lemmas.List.{append-nil}
use Rattle.std.proofs.lemmas.List.Sums.{sum_by-cons}
use Rattle.vp_base.specs.declared.limits.Limits.{Limits}
use Rattle.vp_head.specs.declared.fault.PacketFault.{PacketFault}
use Rattle.vp_ivf.specs.declared.packet.Packet.{Packet}
use Rattle.vp_decode.specs.Step.{Answer, Shown, Hidden, Fault, outcome}
use Rattle.vp_stream.specs.declared.report.Report.{Report}
use Rattle.vp_stream.specs.Answers.{answers_from}
use Rattle.vp_stream.specs.Reports.{is_shown, is_hidden, faults_from, report_of}
use Rattle.vp_stream.specs.declared.form.Form.{Form}
use Rattle.vp_stream.specs.Transcode.{TranscodeState, fresh, with_outcome, after_packet, after_packets, answer_to, answers_to}

pub after_packets-append : (r : TranscodeState) (ps qs : List Packet) → after_packets r (ps ++ qs) ≡ after_packets (after_packets r ps) qs
after_packets-append r [] qs = refl
after_packets-append r (p ∷ ps) qs = after_packets-append (after_packet r p.bytes) ps qs

pub answers_to-append : (r : TranscodeState) (ps qs : List Packet) → answers_to r (ps ++ qs) ≡ answers_to r ps ++ answers_to (after_packets r ps) qs
answers_to-append r [] qs = refl
answers_to-append r (p ∷ ps) qs = ap (λ (later : List Answer). answer_to r p.bytes ∷ later) (answers_to-append (after_packet r p.bytes) ps qs)

pub length-answers_to : (r : TranscodeState) (ps : List Packet) → length (answers_to r ps) ≡ length ps
length-answers_to r [] = refl
length-answers_to r (p ∷ ps) = let e = length-answers_to (after_packet r p.bytes) ps in omega arith

-- a report with more answers
abbrev with_answers : Report → List Answer → Report
with_answers r answers = record {
  packets = r.packets + length answers;
  shown = r.shown + count_by is_shown answers;
  hidden = r.hidden + count_by is_hidden answers;
  faults = r.faults ++ faults_from r.packets answers;
}

reports_equal : (p s h p' s' h' : ℕ) (f f' : List (ℕ × PacketFault)) → p ≡ p' → s ≡ s' → h ≡ h' → f ≡ f'
    → let r : Report = record { packets = p; shown = s; hidden = h; faults = f } in r ≡ record { packets = p'; shown = s'; hidden = h'; faults = f' }
reports_equal p s h p' s' h' f f' a b c d = λ i. record { packets = a i; shown = b i; hidden = c i; faults = d i }

with_first : (r : Report) (a : Answer) (answers : List Answer) → with_answers (with_outcome r (outcome a)) answers ≡ with_answers r (a ∷ answers)
with_first r (Shown p) answers =
    let shown = sum_by-cons (λ (x : Answer). cond (is_shown x) 1 0) (Shown p) answers in
    let hidden = sum_by-cons (λ (x : Answer). cond (is_hidden x) 1 0) (Shown p) answers in
    reports_equal _ _ _ _ _ _ _ _ (omega arith) (omega arith) (omega arith) refl
with_first r Hidden answers =
    let shown = sum_by-cons (λ (x : Answer). cond (is_shown x) 1 0) Hidden answers in
    let hidden = sum_by-cons (λ (x : Answer). cond (is_hidden x) 1 0) Hidden answers in
    reports_equal _ _ _ _ _ _ _ _ (omega arith) (omega arith) (omega arith) refl
with_first r (Fault f) answers =
    let shown = sum_by-cons (λ (x : Answer). cond (is_shown x) 1 0) (Fault f) answers in
    let hidden = sum_by-cons (λ (x : Answer). cond (is_hidden x) 1 0) (Fault f) answers in
    reports_equal _ _ _ _ _ _ _ _ (omega arith) (omega arith) (omega arith) (append_assoc r.faults ((r.packets, f) ∷ []) (faults_from (r.packets + 1) answers))

report_after : (r : TranscodeState) (ps : List Packet) → (after_packets r ps).report ≡ with_answers r.report (answers_to r ps)
report_after r [] = reports_equal _ _ _ _ _ _ _ _ (omega arith) (omega arith) (omega arith) (sym (append-nil r.report.faults))
report_after r (p ∷ ps) = report_after (after_packet r p.bytes) ps ∙ with_first r.report (answer_to r p.bytes) (answers_to (after_packet r p.bytes) ps)

pub report_of_packets : (limits : Limits) (form : Form) (ps : List Packet) → (after_packets (fresh limits form) ps).report ≡ report_of (answers_from limits None ps)
report_of_packets limits form ps = report_after (fresh limits form) ps ∙ reports_equal _ _ _ _ _ _ _ _ (omega arith) (omega arith) (omega arith) refl

pub packets_counted : (limits : Limits) (form : Form) (ps : List Packet) → (after_packets (fresh limits form) ps).report.packets ≡ length ps
packets_counted limits form ps = ap (λ (r : Report). r.packets) (report_of_packets limits form ps) ∙ length-answers_to (fresh limits form) ps
