-- Cursors: the packets that they stand behind, and where they go on.
use Rattle.std.proofs.Common.{◌≡◌, ℕ, zero, suc, ◌+◌, ◌-◌, ◌<◌, ◌≤◌, Bool, true, false, cond, List, [], ◌∷◌, ◌++◌, length, take, drop, Option, Some, None, Result, Ok, Err, refl, sym, ap, subst, ◌∙◌, inl, inr, arith}
use Rattle.std.specs.Prelude.{slice_get, slice_range, get_or, nat_lt, ◌||◌, OnOk, OnErr}
use Rattle.std.specs.Option.{unwrap_or}
use Rattle.std.proofs.Math.Seq.{take-add}
use Rattle.std.proofs.lemmas.List.{length-take-le, length-append, length-drop, take-append-le, append-nil, take_more}
use Rattle.std.proofs.lemmas.Bool.{cases_lt, cond_both, or_parts, lt-ltb, le-ltb, ltb-false}
use Rattle.vp_base.specs.declared.limits.Limits.{Limits}
use Rattle.vp_ivf.specs.declared.packet.Packet.{Packet}
use Rattle.vp_ivf.specs.declared.fault.FileFault.{FileFault}
use Rattle.vp_ivf.specs.Ivf.{Contents, read_from, resume_at}
use Rattle.vp_decode.specs.declared.decoder.Outcome.{Outcome}
use Rattle.vp_decode.specs.Step.{DecoderState, Answer, Decoder, step, after, picture_in, outcome}
use Rattle.vp_decode.specs.Step as step_is
use Rattle.vp_stream.specs.Seeking.{HasKey, IsKeyBefore, answer_values, answer_or_none, answer_at, state_after_packets, seek_start, key_before, work_of}
use Rattle.vp_stream.specs.Stream.{Stream, after_piece, stream_after_end}
use Rattle.vp_stream.specs.Cursor.{Cursor, IsCursorOf, cursor_before, initial_cursor, cursor_after, cursor_after_packets, cursor_behind, cursor_start, work_from, next_after, placed, shown_value}
use Rattle.vp_stream.proofs.KeyLemmas.{is_key_before}
use Rattle.vp_stream.proofs.AnswerLemmas.{Resets, SaysInter, answer_there, drop_there, stays_none, first_le, work_there, no_work}

-- the decoder's outcome and its picture are the step's answer
pub shown_value_of : (a : Answer) → shown_value (picture_in a) (outcome a) ≡ answer_values a
shown_value_of (step_is.Shown p) = refl
shown_value_of step_is.Hidden = refl
shown_value_of (step_is.Fault f) = refl

pub shown_answer : (before now : Decoder) (o : Outcome) (packet : List ℕ) → now ≡ after before (step before.limits before.state packet)
    → o ≡ outcome (step before.limits before.state packet).1
    → shown_value now.shown o ≡ answer_values (step before.limits before.state packet).1
shown_answer before now o packet step_is outcome_is =
    (λ i. shown_value (step_is i).shown (outcome_is i)) ∙ shown_value_of (step before.limits before.state packet).1

-- ---- packets one after another

pub cursor_after-append : (c : Cursor) (ps qs : List Packet) → cursor_after_packets c (ps ++ qs) ≡ cursor_after_packets (cursor_after_packets c ps) qs
cursor_after-append c [] qs = refl
cursor_after-append c (p ∷ ps) qs = cursor_after-append (cursor_after c p.bytes) ps qs

pub limits_after : (c : Cursor) (ps : List Packet) → (cursor_after_packets c ps).limits ≡ c.limits
limits_after c [] = refl
limits_after c (p ∷ ps) = limits_after (cursor_after c p.bytes) ps

pub next_after_packets : (c : Cursor) (ps : List Packet) → (cursor_after_packets c ps).next ≡ c.next + length ps
next_after_packets c [] = omega arith
next_after_packets c (p ∷ ps) = omega (arith, next_after_packets (cursor_after c p.bytes) ps)

state_after : (c : Cursor) (ps : List Packet) → (cursor_after_packets c ps).state ≡ state_after_packets c.limits c.state ps
state_after c [] = refl
state_after c (p ∷ ps) = state_after (cursor_after c p.bytes) ps

pub next_behind : (limits : Limits) (ps : List Packet) (n : ℕ) → n ≤ length ps → (cursor_behind limits ps n).next ≡ n
next_behind limits ps n le = omega (arith, next_after_packets (initial_cursor limits) (take n ps), length-take-le n ps le)

-- the next packet of a list
pub decodes_on : (c : Cursor) (ps : List Packet) (i : ℕ) (p : Packet) (old new : Cursor) (bytes : List ℕ) → old ≡ cursor_after_packets c (take i ps)
    → new ≡ cursor_after old bytes → bytes ≡ p.bytes → p ≡ get_or ps i p → i < length ps → new ≡ cursor_after_packets c (take (i + 1) ps)
decodes_on c ps i p old new bytes old_is new_is same_bytes read within =
    let more : take (i + 1) ps ≡ take i ps ++ p ∷ [] = take_more ps i p within ∙ ap (λ x. take i ps ++ x ∷ []) (sym read) in
    new_is
    ∙ ((λ j. cursor_after (old_is j) (same_bytes j))
    ∙ sym (ap (λ qs. cursor_after_packets c qs) more ∙ cursor_after-append c (take i ps) (p ∷ [])))

-- from packet m to packet n
parts : (ps : List Packet) (m n : ℕ) → m ≤ n → take m ps ++ slice_range ps m n ≡ take n ps
parts ps m n le =
    let e : m + (n - m) ≡ n = omega arith in
    sym (take-add m (n - m) ps) ∙ ap (λ x. take x ps) e

pub behind_on : (limits : Limits) (ps : List Packet) (m n : ℕ) → m ≤ n → cursor_after_packets (cursor_behind limits ps m) (slice_range ps m n) ≡ cursor_behind limits ps n
behind_on limits ps m n le =
    sym (cursor_after-append (initial_cursor limits) (take m ps) (slice_range ps m n))
    ∙ ap (λ qs. cursor_after_packets (initial_cursor limits) qs) (parts ps m n le)

first_of_range : (ps : List Packet) (m n : ℕ) (p : Packet) → slice_get ps m ≡ Some p → m < n → slice_range ps m n ≡ p ∷ slice_range ps (suc m) n
first_of_range ps m n p there lt =
    let e : n - m ≡ suc (n - suc m) = omega arith in
    ap (λ qs. take (n - m) qs) (drop_there ps m p there) ∙ ap (λ x. take x (p ∷ drop (suc m) ps)) e

-- ---- from a key packet on

same_step : (a b : Cursor) (packet : List ℕ) → a.limits ≡ b.limits → a.next ≡ b.next → step a.limits a.state packet ≡ step b.limits b.state packet
    → cursor_after a packet ≡ cursor_after b packet
same_step a b packet limits next steps = λ i. record {
  limits = limits i;
  next = next i + 1;
  state = (steps i).0;
  last = answer_values (steps i).1;
}

-- at a key packet, or without one, the step doesn't depend on the packets before
key_step : (limits : Limits) (ps : List Packet) (k : ℕ) (o : Option Packet) (p : Packet) (s : Option DecoderState) → Resets limits → slice_get ps k ≡ o → HasKey o → slice_get ps k ≡ Some p
    → step limits None p.bytes ≡ step limits s p.bytes
key_step limits ps k None p s reset is key there = absurd key
key_step limits ps k (Some q) p s reset is key there =
    let same : q ≡ p = cc in
    rw (sym same) (sym (reset s q.bytes key))

start_step : (limits : Limits) (ps : List Packet) (n : ℕ) (o : Option ℕ) (p : Packet) → Resets limits → SaysInter limits → IsKeyBefore ps n o → slice_get ps (unwrap_or o n) ≡ Some p
    → step limits None p.bytes ≡ step limits (state_after_packets limits None (take (unwrap_or o n) ps)) p.bytes
start_step limits ps n None p reset says h there =
    ap (λ (s : Option DecoderState). step limits s p.bytes) (sym (stays_none limits ps n says (λ k l. h k (omega arith))))
start_step limits ps n (Some k) p reset says h there =
    key_step limits ps k (slice_get ps k) p (state_after_packets limits None (take k ps)) reset refl h.1 there

starts : (limits : Limits) (ps : List Packet) (n f : ℕ) (p : Packet) → Resets limits → SaysInter limits → f ≡ seek_start ps n → f ≤ length ps → slice_get ps f ≡ Some p
    → cursor_after (cursor_before limits f) p.bytes ≡ cursor_after (cursor_behind limits ps f) p.bytes
starts limits ps n f p reset says is within there =
    let b = cursor_behind limits ps f in
    let same_limits : limits ≡ b.limits = sym (limits_after (initial_cursor limits) (take f ps)) in
    let same_next : f ≡ b.next = sym (next_behind limits ps f within) in
    let same_state : state_after_packets limits None (take f ps) ≡ b.state = sym (state_after (initial_cursor limits) (take f ps)) in
    let from_none : step limits None p.bytes ≡ step limits (state_after_packets limits None (take f ps)) p.bytes =
    rw is (start_step limits ps n (key_before ps n) p reset says (is_key_before ps n) (ap (λ x. slice_get ps x) (sym is) ∙ there)) in
    same_step (cursor_before limits f) b p.bytes same_limits same_next
    (from_none ∙ (λ i. step (same_limits i) (same_state i) p.bytes))

there : (ps : List Packet) (n : ℕ) → n < length ps → (p : Packet) × (slice_get ps n ≡ Some p)
there [] n lt = absurd (omega arith)
there (p ∷ ps) zero lt = (p, refl)
there (p ∷ ps) (suc n) lt = there ps n (omega arith)

restarts : (limits : Limits) (ps : List Packet) (n f : ℕ) → Resets limits → SaysInter limits → f ≡ seek_start ps n → n < length ps
    → cursor_after_packets (cursor_before limits f) (slice_range ps f (n + 1)) ≡ cursor_behind limits ps (n + 1)
restarts limits ps n f reset says is within =
    let first : f ≤ n = omega (arith, is, first_le ps n) in
    let found = there ps f (omega arith) in
    let p = found.0 in
    let qs = slice_range ps (suc f) (n + 1) in
    let range = first_of_range ps f (n + 1) p found.1 (omega arith) in
    ap (λ rs. cursor_after_packets (cursor_before limits f) rs) range
    ∙ (ap (λ c. cursor_after_packets c qs) (starts limits ps n f p reset says is (omega arith) found.1)
    ∙ (ap (λ rs. cursor_after_packets (cursor_behind limits ps f) rs) (sym range)
    ∙ behind_on limits ps f (n + 1) (omega arith)))

-- from the cursor, or from the key packet
goes_on : (limits : Limits) (ps : List Packet) (n f : ℕ) (old : Cursor) (b : Bool) → (nat_lt old.next f || nat_lt (n + 1) old.next) ≡ b
    → Resets limits → SaysInter limits → f ≡ seek_start ps n → n < length ps → old ≡ cursor_behind limits ps old.next
    → cursor_after_packets (cond b (cursor_before limits f) old) (slice_range ps (cond b (cursor_before limits f) old).next (n + 1)) ≡ cursor_behind limits ps (n + 1)
goes_on limits ps n f old true e reset says is within decoded = restarts limits ps n f reset says is within
goes_on limits ps n f old false e reset says is within decoded =
    let le : old.next ≤ n + 1 = ltb-false (n + 1) old.next (or_parts (nat_lt old.next f) (nat_lt (n + 1) old.next) e).1 in
    ap (λ c. cursor_after_packets c (slice_range ps old.next (n + 1))) decoded ∙ behind_on limits ps old.next (n + 1) le

moved : (limits : Limits) (ps : List Packet) (n f : ℕ) (old : Cursor) → Resets limits → SaysInter limits → f ≡ seek_start ps n → n < length ps
    → old ≡ cursor_behind limits ps old.next
    → cursor_after_packets (placed limits f (n + 1) old) (slice_range ps (placed limits f (n + 1) old).next (n + 1)) ≡ cursor_behind limits ps (n + 1)
moved limits ps n f old = goes_on limits ps n f old (nat_lt old.next f || nat_lt (n + 1) old.next) refl

pub moved_behind : (limits own : Limits) (ps items : List Packet) (n f start : ℕ) (old on new : Cursor) → Resets limits → SaysInter limits
    → f ≡ seek_start ps n → n < length ps → old ≡ cursor_behind limits ps old.next → own ≡ limits → items ≡ ps
    → on ≡ placed own f (n + 1) old → start ≡ on.next → new ≡ cursor_after_packets on (slice_range items start (n + 1))
    → new ≡ cursor_behind limits ps (n + 1)
moved_behind limits own ps items n f start old on new reset says is within decoded same_limits same_items on_is start_is new_is =
    let from : on ≡ placed limits f (n + 1) old = on_is ∙ ap (λ l. placed l f (n + 1) old) same_limits in
    let first : start ≡ (placed limits f (n + 1) old).next = start_is ∙ ap (λ (c : Cursor). c.next) from in
    new_is
    ∙ ((λ i. cursor_after_packets (from i) (slice_range (same_items i) (first i) (n + 1)))
    ∙ moved limits ps n f old reset says is within decoded)

starts_at : (limits : Limits) (f : ℕ) (old : Cursor) (b : Bool) → (cond b (cursor_before limits f) old).next ≡ cond b f old.next
starts_at limits f old true = refl
starts_at limits f old false = refl

pub placed_next : (limits : Limits) (ps : List Packet) (n f : ℕ) (old : Cursor) → f ≡ seek_start ps n → (placed limits f (n + 1) old).next ≡ cursor_start ps old.next n
placed_next limits ps n f old is =
    starts_at limits f old (nat_lt old.next f || nat_lt (n + 1) old.next)
    ∙ ap (λ x. cond (nat_lt old.next x || nat_lt (n + 1) old.next) x old.next) is

pub start_le : (ps : List Packet) (next n : ℕ) → cursor_start ps next n ≤ n + 1
start_le ps next n =
    let first = first_le ps n in
    cond_both (nat_lt next (seek_start ps n) || nat_lt (n + 1) next) (seek_start ps n) next (λ x. x ≤ n + 1) (λ e. omega (arith, first))
    (λ e. ltb-false (n + 1) next (or_parts (nat_lt next (seek_start ps n)) (nat_lt (n + 1) next) e).1)

-- ---- work

pub from_there : (ps : List Packet) (next n : ℕ) → n < length ps → work_from ps next n ≡ n + 1 - cursor_start ps next n
unfolding work_from
from_there ps next n within = rw (lt-ltb n (length ps) within) refl

pub nothing_there : (ps : List Packet) (next n : ℕ) → length ps ≤ n → work_from ps next n ≡ 0
unfolding work_from
nothing_there ps next n past = rw (le-ltb n (length ps) past) refl

pub goes_behind : (ps : List Packet) (next n : ℕ) → n < length ps → next_after ps next n ≡ n + 1
unfolding next_after
goes_behind ps next n within = rw (lt-ltb n (length ps) within) refl

pub stays_there : (ps : List Packet) (next n : ℕ) → length ps ≤ n → next_after ps next n ≡ next
unfolding next_after
stays_there ps next n past = rw (le-ltb n (length ps) past) refl

start_ge : (ps : List Packet) (next n : ℕ) → seek_start ps n ≤ cursor_start ps next n
start_ge ps next n =
    cond_both (nat_lt next (seek_start ps n) || nat_lt (n + 1) next) (seek_start ps n) next (λ x. seek_start ps n ≤ x) (λ e. omega arith)
    (λ e. ltb-false next (seek_start ps n) (or_parts (nat_lt next (seek_start ps n)) (nat_lt (n + 1) next) e).0)

pub no_more : (ps : List Packet) (next n : ℕ) → work_from ps next n ≤ work_of ps n
no_more ps next n =
    elim (cases_lt n (length ps)) [
      | inl within ↦ omega (arith, from_there ps next n within, work_there ps n within, start_ge ps next n, first_le ps n)
      | inr past ↦ omega (arith, nothing_there ps next n past)
    ]

start_same : (ps : List Packet) (next n : ℕ) → seek_start ps n ≤ next → next ≤ n + 1 → cursor_start ps next n ≡ next
start_same ps next n low high = rw (le-ltb next (seek_start ps n) low, le-ltb (n + 1) next high) refl

pub between : (ps : List Packet) (next n : ℕ) → n < length ps → seek_start ps n ≤ next → next ≤ n + 1 → work_from ps next n ≡ n + 1 - next
between ps next n within low high = from_there ps next n within ∙ ap (λ x. n + 1 - x) (start_same ps next n low high)

pub again : (ps : List Packet) (n : ℕ) → work_from ps (n + 1) n ≡ 0
again ps n =
    elim (cases_lt n (length ps)) [
      | inl within ↦ omega (arith, between ps (n + 1) n within (omega (arith, first_le ps n)) (omega arith))
      | inr past ↦ nothing_there ps (n + 1) n past
    ]

-- a cursor before the key packet, or past packet n
from_key : (ps : List Packet) (next n : ℕ) → cursor_start ps next n ≡ seek_start ps n → work_from ps next n ≡ work_of ps n
from_key ps next n same =
    elim (cases_lt n (length ps)) [
      | inl within ↦ omega (arith, from_there ps next n within, work_there ps n within, same, first_le ps n)
      | inr past ↦ nothing_there ps next n past ∙ sym (no_work ps n past)
    ]

pub before_key : (ps : List Packet) (next n : ℕ) → next ≤ seek_start ps n → work_from ps next n ≡ work_of ps n
before_key ps next n le =
    from_key ps next n
    (cond_both (nat_lt next (seek_start ps n) || nat_lt (n + 1) next) (seek_start ps n) next (λ x. x ≡ seek_start ps n) (λ e. refl)
    (λ e. omega (arith, ltb-false next (seek_start ps n) (or_parts (nat_lt next (seek_start ps n)) (nat_lt (n + 1) next) e).0)))

pub past_it : (ps : List Packet) (next n : ℕ) → n + 1 < next → work_from ps next n ≡ work_of ps n
past_it ps next n lt =
    from_key ps next n
    (cond_both (nat_lt next (seek_start ps n) || nat_lt (n + 1) next) (seek_start ps n) next (λ x. x ≡ seek_start ps n) (λ e. refl)
    (λ e. absurd (omega (arith, ltb-false (n + 1) next (or_parts (nat_lt next (seek_start ps n)) (nat_lt (n + 1) next) e).1))))

pub behind_key : (ps : List Packet) (n key next : ℕ) → n < length ps → key_before ps n ≡ Some key → key < next → next ≤ n → work_from ps next n ≡ n - next + 1
behind_key ps n key next within is low high =
    let start : seek_start ps n ≡ key = ap (λ o. unwrap_or o n) is in
    omega (arith, between ps next n within (omega (arith, start)) (omega arith))

pub one_each : (ps : List Packet) (n : ℕ) → n < length ps → work_from ps n n ≡ 1
one_each ps n within = omega (arith, between ps n n within (first_le ps n) (omega arith))

pub length-range : (ps : List Packet) (m n : ℕ) → m ≤ n → n ≤ length ps → length (slice_range ps m n) ≡ n - m
length-range ps m n order within = length-take-le (n - m) (drop m ps) (omega (arith, length-drop m ps))

-- the packets decoded from there on
pub amount : (limits : Limits) (ps items : List Packet) (n f start before : ℕ) (old on : Cursor) → f ≡ seek_start ps n → n < length ps → items ≡ ps
    → on ≡ placed limits f (n + 1) old → start ≡ on.next → before ≡ 0
    → before + length (slice_range items start (n + 1)) ≡ work_from ps old.next n
amount limits ps items n f start before old on is within same_items on_is start_is none =
    let first : start ≡ cursor_start ps old.next n = start_is ∙ (ap (λ (c : Cursor). c.next) on_is ∙ placed_next limits ps n f old is) in
    let long : length items ≡ length ps = ap (λ qs. length qs) same_items in
    omega (arith, none, length-range items start (n + 1) (omega (arith, first, start_le ps old.next n)) (omega (arith, long)), from_there ps old.next n within, first)

pub at_most : {A E : Type 0} (r : Result A E) (d w : ℕ) → OnOk r (d ≡ w) → OnErr r (d ≤ w) → d ≤ w
at_most (Ok x) d w same less = omega arith
at_most (Err x) d w same less = less

-- ---- the answer for the packet decoded last

behind_suc : (limits : Limits) (ps : List Packet) (n : ℕ) (p : Packet) → slice_get ps n ≡ Some p → cursor_behind limits ps (n + 1) ≡ cursor_after (cursor_behind limits ps n) p.bytes
behind_suc limits ps n p some =
    let none : n + 1 - suc n ≡ 0 = omega arith in
    sym (behind_on limits ps n (n + 1) (omega arith))
    ∙ (ap (λ qs. cursor_after_packets (cursor_behind limits ps n) qs) (first_of_range ps n (n + 1) p some (omega arith))
    ∙ ap (λ x. cursor_after_packets (cursor_behind limits ps n) (p ∷ take x (drop (suc n) ps))) none)

pub answer_behind : (limits : Limits) (ps : List Packet) (n : ℕ) → n < length ps → (cursor_behind limits ps (n + 1)).last ≡ answer_at limits ps n
answer_behind limits ps n within =
    let found = there ps n within in
    let p = found.0 in
    let b = cursor_behind limits ps n in
    let same_limits : b.limits ≡ limits = limits_after (initial_cursor limits) (take n ps) in
    let same_state : b.state ≡ state_after_packets limits None (take n ps) = state_after (initial_cursor limits) (take n ps) in
    ap (λ (c : Cursor). c.last) (behind_suc limits ps n p found.1)
    ∙ ((λ i. answer_values (step (same_limits i) (same_state i) p.bytes).1)
    ∙ sym (ap answer_or_none (answer_there limits None ps n p found.1)))

-- ---- the stream

behind_stands : (s : Stream) (n : ℕ) → n ≤ length s.reading.packets → IsCursorOf (cursor_behind s.limits s.reading.packets n) s
behind_stands s n le =
    let next = next_behind s.limits s.reading.packets n le in
    record {
      within = omega (arith, next);
      decoded = ap (λ x. cursor_behind s.limits s.reading.packets x) (sym next);
    }

pub stands_behind : (s : Stream) (c : Cursor) (n : ℕ) → n < length s.reading.packets → c ≡ cursor_behind s.limits s.reading.packets (n + 1) → IsCursorOf c s
stands_behind s c n within is = subst (λ (d : Cursor). IsCursorOf d s) (sym is) (behind_stands s (n + 1) (omega arith))

-- more packets come behind
longer : (c : Cursor) (s t : Stream) (more : List Packet) → t.limits ≡ s.limits → t.reading.packets ≡ s.reading.packets ++ more → IsCursorOf c s → IsCursorOf c t
longer c s t more limits packets is =
    let ps = s.reading.packets in
    let same : take c.next t.reading.packets ≡ take c.next ps = ap (λ qs. take c.next qs) packets ∙ take-append-le c.next ps more is.within in
    record {
      within = omega (arith, is.within, ap (λ qs. length qs) packets, length-append ps more);
      decoded = is.decoded ∙ (λ i. cursor_after_packets (initial_cursor (sym limits i)) (sym same i));
    }

resumes : (f : Option FileFault) (max : ℕ) (r : Contents) (more : List ℕ) → (later : List Packet) × ((resume_at f max r more).packets ≡ r.packets ++ later)
resumes (Some f) max r more = ([], sym (append-nil r.packets))
resumes None max r more = ((read_from r.head max r.left (r.rest ++ more)).packets, refl)

pub outlives : (c : Cursor) (s : Stream) (piece : List ℕ) → IsCursorOf c s → IsCursorOf c (after_piece s piece)
outlives c s piece is =
    let on = resumes s.reading.fault s.limits.packet_bytes s.reading piece in
    longer c s (after_piece s piece) on.0 refl on.1 is

pub ended : (c : Cursor) (s : Stream) → IsCursorOf c s → IsCursorOf c (stream_after_end s)
ended c s is = record { within = is.within; decoded = is.decoded }
