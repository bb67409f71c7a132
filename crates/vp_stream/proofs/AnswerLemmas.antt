-- Answers, and where decoding may begin.
use Rattle.std.proofs.Common.{◌≡◌, ◌≢◌, ℕ, zero, suc, ◌+◌, ◌-◌, ◌<◌, ◌≤◌, ◌%◌, List, [], ◌∷◌, ◌++◌, length, take, drop, Option, Some, None, refl, sym, ap, ◌∙◌, inl, inr, ◌⊎◌, zero-add, arith}
use Rattle.std.specs.Prelude.{slice_get, slice_index, slice_range, get_or, Result, Ok, Err, IfOk, IsNone}
use Rattle.std.specs.Option.{unwrap_or}
use Rattle.std.proofs.lemmas.Bool.{cases_lt, cases_eq, lt-ltb, le-ltb}
use Rattle.std.proofs.lemmas.Option.{same_Some, none-some, slice_get_past, slice_get_read}
use Rattle.std.proofs.lemmas.List.{take_more, get_or-drop, length-drop}
use Rattle.vp_base.specs.declared.limits.Limits.{Limits}
use Rattle.vp_head.specs.declared.fields.Tag.{Tag}
use Rattle.vp_head.specs.declared.fields.KeyTag.{KeyTag}
use Rattle.vp_head.specs.declared.fault.PacketFault.{PacketFault}
use Rattle.vp_head.specs.declared.fault.PacketFault.TheVariants.{NoReference}
use Rattle.vp_head.specs.Tag.{IsKeyPacket, IsInterPacket, tag_of}
use Rattle.vp_ivf.specs.declared.packet.Packet.{Packet}
use Rattle.vp_decode.specs.Step.{DecoderState, FrameContext, ◌>>=◌, context_of, parsed_in_context, parsed, decoded, Answer, Decoder, step, after}
use Rattle.vp_stream.specs.Answers.{answers_from}
use Rattle.vp_stream.specs.Seeking.{AnswerValue, NoPacket, answer_values, answer_or_none, work_of, answer_at, state_after_packets, HasKey, IsKeyAt, IsKeyBefore, seek_start, key_before}
use Rattle.vp_stream.proofs.KeyLemmas.{is_key_before}

pub state_after-append : (limits : Limits) (s : Option DecoderState) (ps qs : List Packet) → state_after_packets limits s (ps ++ qs) ≡ state_after_packets limits (state_after_packets limits s ps) qs
state_after-append limits s [] qs = refl
state_after-append limits s (p ∷ ps) qs = state_after-append limits (step limits s p.bytes).0 ps qs

-- the answer for a packet that is there
pub answer_there : (limits : Limits) (s : Option DecoderState) (ps : List Packet) (n : ℕ) (p : Packet) → slice_get ps n ≡ Some p
    → slice_get (answers_from limits s ps) n ≡ Some (step limits (state_after_packets limits s (take n ps)) p.bytes).1
answer_there limits s [] n p e = absurd (none-some p e)
answer_there limits s (q ∷ ps) zero p e = ap (λ (x : Packet). Some (step limits s x.bytes).1) (same_Some q p e)
answer_there limits s (q ∷ ps) (suc n) p e = answer_there limits (step limits s q.bytes).0 ps n p e

-- from a place on, the answers are those from the state there
answers_past : (limits : Limits) (s : Option DecoderState) (ps : List Packet) (k j : ℕ)
    → slice_get (answers_from limits s ps) (k + j) ≡ slice_get (answers_from limits (state_after_packets limits s (take k ps)) (drop k ps)) j
answers_past limits s ps zero j = ap (λ n. slice_get (answers_from limits s ps) n) (zero-add j)
answers_past limits s [] (suc k) j = refl
answers_past limits s (p ∷ ps) (suc k) j =
    let e : suc k + j ≡ suc (k + j) = omega arith in
    ap (λ n. slice_get (answers_from limits s (p ∷ ps)) n) e ∙ answers_past limits (step limits s p.bytes).0 ps k j

pub drop_there : (ps : List Packet) (k : ℕ) (p : Packet) → slice_get ps k ≡ Some p → drop k ps ≡ p ∷ drop (suc k) ps
drop_there [] k p e = absurd (none-some p e)
drop_there (q ∷ ps) zero p e = ap (λ x. x ∷ ps) (same_Some q p e)
drop_there (q ∷ ps) (suc k) p e = drop_there ps k p e

-- ---- from a key packet on

abbrev pub Resets : Limits → Type 0
Resets limits = (state : Option DecoderState) (packet : List ℕ) → IsKeyPacket packet → step limits state packet ≡ step limits None packet

answers-reset : (limits : Limits) (s : Option DecoderState) (p : Packet) (ps : List Packet) → Resets limits → IsKeyPacket p.bytes
    → answers_from limits s (p ∷ ps) ≡ answers_from limits None (p ∷ ps)
answers-reset limits s p ps reset key = ap (λ (r : Option DecoderState × Answer). r.1 ∷ answers_from limits r.0 ps) (reset s p.bytes key)

pub from_key : (limits : Limits) (ps : List Packet) (n k : ℕ) (p : Packet) → Resets limits → slice_get ps k ≡ Some p → IsKeyPacket p.bytes → k ≤ n
    → answer_at limits ps n ≡ answer_at limits (drop k ps) (n - k)
from_key limits ps n k p reset there key le =
    let e : n ≡ k + (n - k) = omega arith in
    let d = drop_there ps k p there in
    let s = state_after_packets limits None (take k ps) in
    ap (λ x. answer_or_none (slice_get (answers_from limits None ps) x)) e
    ∙ ap answer_or_none (answers_past limits None ps k (n - k)
    ∙ (ap (λ qs. slice_get (answers_from limits s qs) (n - k)) d
    ∙ (ap (λ as_. slice_get as_ (n - k)) (answers-reset limits s p (drop (suc k) ps) reset key)
    ∙ ap (λ qs. slice_get (answers_from limits None qs) (n - k)) (sym d))))

-- ---- where there is no key packet

abbrev pub SaysInter : Limits → Type 0
SaysInter limits = (packet : List ℕ) → IsInterPacket packet → IfOk (tag_of limits packet) (λ tag. IsNone tag.key)

no_basis : (key : Option KeyTag) → IsNone key → context_of key None ≡ Err NoReference
no_basis None h = refl
no_basis (Some k) h = absurd cc

none_kept : (r : Result Tag PacketFault) (b : List ℕ) → IfOk r (λ tag. IsNone tag.key) → (decoded (r >>= λ (tag : Tag). context_of tag.key None >>= λ (context : FrameContext). parsed_in_context tag context b)).0 ≡ None
none_kept (Err f) b h = refl
none_kept (Ok tag) b h = ap (λ (r : Result FrameContext PacketFault). (decoded (r >>= λ (context : FrameContext). parsed_in_context tag context b)).0) (no_basis tag.key h)

short : (limits : Limits) (b : List ℕ) → length b < 3 → IfOk (tag_of limits b) (λ tag. IsNone tag.key)
unfolding tag_of
short limits b lt = rw (lt-ltb (length b) 3 lt) tt

no_key_kind : (b : List ℕ) → ¬ IsKeyPacket b → (length b < 3) ⊎ IsInterPacket b
no_key_kind b other =
    elim (cases_lt (length b) 3) [
      | inl lt ↦ inl lt
      | inr ge ↦ elim (cases_eq (slice_index b 0 % 2) 0) [
        | inl e ↦ absurd (other (ge, e))
        | inr ne ↦ inr (ge, omega arith)
      ]
    ]

pub keyless : (limits : Limits) (b : List ℕ) → SaysInter limits → ¬ IsKeyPacket b → IfOk (tag_of limits b) (λ tag. IsNone tag.key)
keyless limits b says other =
    elim (no_key_kind b other) [
      | inl lt ↦ short limits b lt
      | inr odd ↦ says b odd
    ]

still_none : (limits : Limits) (b : List ℕ) → SaysInter limits → ¬ IsKeyPacket b → (step limits None b).0 ≡ None
unfolding step parsed
still_none limits [] says other = refl
still_none limits (x ∷ xs) says other = none_kept (tag_of limits (x ∷ xs)) (x ∷ xs) (keyless limits (x ∷ xs) says other)

pub stays_none : (limits : Limits) (ps : List Packet) (n : ℕ) → SaysInter limits → ((k : ℕ) → k < n → ¬ IsKeyAt ps k)
    → state_after_packets limits None (take n ps) ≡ None
stays_none limits ps zero says other = refl
stays_none limits [] (suc n) says other = refl
stays_none limits (p ∷ ps) (suc n) says other =
    ap (λ (s : Option DecoderState). state_after_packets limits s (take n ps)) (still_none limits p.bytes says (other 0 (omega arith)))
    ∙ stays_none limits ps n says (λ k l. other (suc k) (omega arith))

alone : (limits : Limits) (ps : List Packet) (n : ℕ) → SaysInter limits → ((k : ℕ) → k ≤ n → ¬ IsKeyAt ps k)
    → answer_at limits ps n ≡ answer_at limits (drop n ps) (n - n)
alone limits ps n says other =
    let z : n - n ≡ 0 = omega arith in
    let same : n ≡ n + 0 = omega arith in
    let none = stays_none limits ps n says (λ k l. other k (omega arith)) in
    ap (λ x. answer_or_none (slice_get (answers_from limits None ps) x)) same
    ∙ ap answer_or_none (answers_past limits None ps n 0 ∙ ap (λ (s : Option DecoderState). slice_get (answers_from limits s (drop n ps)) 0) none)
    ∙ ap (λ x. answer_at limits (drop n ps) x) (sym z)

-- ---- both

key_there : (limits : Limits) (ps : List Packet) (n k : ℕ) (o : Option Packet) → Resets limits → slice_get ps k ≡ o → HasKey o → k ≤ n
    → answer_at limits ps n ≡ answer_at limits (drop k ps) (n - k)
key_there limits ps n k None reset there key le = absurd key
key_there limits ps n k (Some p) reset there key le = from_key limits ps n k p reset there key le

by_key : (limits : Limits) (ps : List Packet) (n : ℕ) (o : Option ℕ) → Resets limits → SaysInter limits → IsKeyBefore ps n o
    → answer_at limits ps n ≡ answer_at limits (drop (unwrap_or o n) ps) (n - unwrap_or o n)
by_key limits ps n None reset says h = alone limits ps n says h
by_key limits ps n (Some k) reset says h = key_there limits ps n k (slice_get ps k) reset refl h.1 h.0

pub from_last_key : (limits : Limits) (ps : List Packet) (n : ℕ) → Resets limits → SaysInter limits
    → answer_at limits ps n ≡ answer_at limits (drop (seek_start ps n) ps) (n - seek_start ps n)
from_last_key limits ps n reset says = by_key limits ps n (key_before ps n) reset says (is_key_before ps n)

-- ---- packets that come behind

pub answers_stay : (limits : Limits) (s : Option DecoderState) (ps qs : List Packet) (n : ℕ)
    → answer_or_none (slice_get (answers_from limits s ps) n) ≢ NoPacket
    → answer_or_none (slice_get (answers_from limits s (ps ++ qs)) n) ≡ answer_or_none (slice_get (answers_from limits s ps) n)
answers_stay limits s [] qs n h = absurd (h refl)
answers_stay limits s (p ∷ ps) qs zero h = refl
answers_stay limits s (p ∷ ps) qs (suc n) h = answers_stay limits (step limits s p.bytes).0 ps qs n h

-- ---- one packet after another

pub decoded_on : (limits : Limits) (s : Option DecoderState) (ps : List Packet) (i : ℕ) (p : Packet) (old new : Decoder) (bytes : List ℕ)
    → old.limits ≡ limits → old.state ≡ state_after_packets limits s (take i ps) → new ≡ after old (step old.limits old.state bytes)
    → bytes ≡ p.bytes → p ≡ get_or ps i p → i < length ps
    → (new.limits ≡ limits) × (new.state ≡ state_after_packets limits s (take (i + 1) ps))
decoded_on limits s ps i p old new bytes same_limits same_state step_is same_bytes read within =
    let more : take (i + 1) ps ≡ take i ps ++ p ∷ [] = take_more ps i p within ∙ ap (λ x. take i ps ++ x ∷ []) (sym read) in
    let last : state_after_packets limits s (take (i + 1) ps) ≡ (step limits (state_after_packets limits s (take i ps)) p.bytes).0
    = ap (λ (qs : List Packet). state_after_packets limits s qs) more ∙ state_after-append limits s (take i ps) (p ∷ []) in
    let now : new.state ≡ (step old.limits old.state bytes).0 = ap (λ (d : Decoder). d.state) step_is in (
      ap (λ (d : Decoder). d.limits) step_is ∙ same_limits,
      now ∙ (ap (λ (l : Limits). (step l old.state bytes).0) same_limits
          ∙ (ap (λ (k : Option DecoderState). (step limits k bytes).0) same_state
          ∙ (ap (λ (b : List ℕ). (step limits (state_after_packets limits s (take i ps)) b).0) same_bytes ∙ sym last))),
    )

-- the answer for the last packet of a part
last_of_part : (limits : Limits) (ps : List Packet) (first n : ℕ) (p : Packet) → first ≤ n → n < length ps → p ≡ get_or ps n p
    → answer_values (step limits (state_after_packets limits None (slice_range ps first n)) p.bytes).1 ≡ answer_at limits (drop first ps) (n - first)
last_of_part limits ps first n p order within read =
    let place : n ≡ first + (n - first) = omega arith in
    let there : p ≡ get_or (drop first ps) (n - first) p = read ∙ (ap (λ x. get_or ps x p) place ∙ sym (get_or-drop first ps (n - first) p)) in
    let some = slice_get_read (drop first ps) (length (drop first ps)) (n - first) p refl (omega (arith, length-drop first ps)) there in
    sym (ap answer_or_none (answer_there limits None (drop first ps) (n - first) p some))

pub answer_is : (limits : Limits) (ps : List Packet) (first n : ℕ) (p : Packet) (a : AnswerValue) (start now : Decoder) (bytes : List ℕ)
    → first ≤ n → n < length ps → p ≡ get_or ps n p
    → start ≡ record { limits = limits; state = None; shown = None }
    → now.limits ≡ start.limits → now.state ≡ state_after_packets start.limits start.state (slice_range ps first n)
    → bytes ≡ (get_or ps n p).bytes → a ≡ answer_values (step now.limits now.state bytes).1
    → a ≡ answer_at limits (drop first ps) (n - first)
answer_is limits ps first n p a start now bytes order within read starts same_limits same_state same_bytes e =
    let limits_are : now.limits ≡ limits = same_limits ∙ ap (λ (d : Decoder). d.limits) starts in
    let state_is : now.state ≡ state_after_packets limits None (slice_range ps first n)
    = same_state ∙ ap (λ (d : Decoder). state_after_packets d.limits d.state (slice_range ps first n)) starts in
    let bytes_are : bytes ≡ p.bytes = same_bytes ∙ ap (λ (q : Packet). q.bytes) (sym read) in
    e ∙ (ap (λ (l : Limits). answer_values (step l now.state bytes).1) limits_are
    ∙ (ap (λ (s : Option DecoderState). answer_values (step limits s bytes).1) state_is
    ∙ (ap (λ (b : List ℕ). answer_values (step limits (state_after_packets limits None (slice_range ps first n)) b).1) bytes_are
    ∙ last_of_part limits ps first n p order within read)))

-- ---- past the end

length-answers : (limits : Limits) (s : Option DecoderState) (ps : List Packet) → length (answers_from limits s ps) ≡ length ps
length-answers limits s [] = refl
length-answers limits s (p ∷ ps) = ap (λ n. suc n) (length-answers limits (step limits s p.bytes).0 ps)

pub no_answer : (limits : Limits) (ps : List Packet) (n : ℕ) → length ps ≤ n → answer_at limits ps n ≡ NoPacket
no_answer limits ps n past =
    ap answer_or_none (slice_get_past (answers_from limits None ps) n (omega (arith, length-answers limits None ps)))

pub no_work : (ps : List Packet) (n : ℕ) → length ps ≤ n → work_of ps n ≡ 0
unfolding work_of
no_work ps n past = rw (le-ltb n (length ps) past) refl

pub work_there : (ps : List Packet) (n : ℕ) → n < length ps → work_of ps n ≡ n - seek_start ps n + 1
unfolding work_of
work_there ps n within = rw (lt-ltb n (length ps) within) refl

first_by : (ps : List Packet) (n : ℕ) (o : Option ℕ) → IsKeyBefore ps n o → unwrap_or o n ≤ n
first_by ps n None h = omega arith
first_by ps n (Some k) h = h.0

pub first_le : (ps : List Packet) (n : ℕ) → seek_start ps n ≤ n
first_le ps n = first_by ps n (key_before ps n) (is_key_before ps n)
