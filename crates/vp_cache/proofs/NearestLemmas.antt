-- The cursor that goes on: which one it is, what it saves, and where it stands afterwards.
use Rattle.std.proofs.Common.{◌≡◌, ℕ, zero, suc, ◌+◌, ◌<◌, ◌≤◌, min, true, false, cond, ◌&&◌, List, [], ◌∷◌, length, take, Option, Some, None, refl, sym, ap, subst, ◌∙◌, inl, inr, arith}
use Rattle.std.specs.Prelude.{◌==◌, nat_le, nat_lt, slice_get, Contains}
use Rattle.std.proofs.lemmas.Bool.{both_ways, and_from, le-leb, eqb-true, eq-eqb, lt-ltb, cases_lt}
use Rattle.std.proofs.lemmas.List.{take_all, length-take}
use Rattle.lru.proofs.Splits.{Contains-cons, Contains-head, Contains-tail}
use Rattle.vp_ivf.specs.declared.packet.Packet.{Packet}
use Rattle.vp_stream.specs.Seeking.{seek_start, work_of}
use Rattle.vp_stream.specs.Stream.{Stream as StreamState}
use Rattle.vp_stream.specs.Cursor.{Cursor, cursor_behind, work_from}
use Rattle.vp_stream.proofs.CursorLemmas.{between, answer_behind}
use Rattle.vp_stream.proofs.AnswerLemmas.{no_work}
use Rattle.vp_cache.specs.Cursors.{CursorEntry, is_between, greater, nearest_between, nearest, stands_behind, without_first, without, in_front, least_work, after_picture, Cursors}
use Rattle.vp_cache.specs.Nearest.{IsUsable, NearestIsUsable, NoneIsUsable, NearestGoesOn, NoneStartsAtTheKey, OthersSaveNothing, UsedIsFirst, UsedIsMoved, NewOneComes, CursorsHoldAnswers}
use Rattle.vp_cache.specs.Streams.{NoneIsLetGo, LastIsLetGo, InOrderCostsOneEach, work_in_order}
use Rattle.vp_cache.proofs.CursorLemmas.{one_stays, costs_no_more, next_costs_one, stood, IsThere, nearest_there, InRange, nearest_range, work_there, least_is, least_none}

-- ---- which cursor goes on

-- the number is there, and not less than m
abbrev pub IsAtLeast : ℕ → Option ℕ → Type 0
IsAtLeast m None = ⊥
IsAtLeast m (Some k) = m ≤ k

greater_self : (a : ℕ) (o : Option ℕ) → IsAtLeast a (greater a o)
greater_self a None = omega arith
greater_self a (Some b) = omega arith

greater_more : (m a : ℕ) (o : Option ℕ) → IsAtLeast m o → IsAtLeast m (greater a o)
greater_more m a None h = absurd h
greater_more m a (Some b) h = omega (arith, h)

nearest_covers : (number start end : ℕ) (es : List CursorEntry) (e : CursorEntry) → Contains es e → is_between number start end e ≡ true
    → IsAtLeast e.1.next (nearest_between number start end es)
nearest_covers number start end [] e at usable = absurd (omega (arith, at.1))
nearest_covers number start end (f ∷ es) e at usable = (elim (is_between number start end f)
    as (λ b. is_between number start end f ≡ b → IsAtLeast e.1.next (cond b (greater f.1.next (nearest_between number start end es)) (nearest_between number start end es))) [
      | true ↦ λ h. elim (Contains-cons f es e at) [
        | inl same ↦
            subst (λ (g : CursorEntry). IsAtLeast g.1.next (greater f.1.next (nearest_between number start end es))) same (greater_self f.1.next (nearest_between number start end es))
        | inr later ↦ greater_more e.1.next f.1.next (nearest_between number start end es) (nearest_covers number start end es e later usable)
      ]
      | false ↦ λ h. elim (Contains-cons f es e at) [
        | inl same ↦ absurd (both_ways (is_between number start end f) h (subst (λ (g : CursorEntry). is_between number start end g ≡ true) (sym same) usable))
        | inr later ↦ nearest_covers number start end es e later usable
      ]
    ]) refl

usable_covered : (number : ℕ) (ps : List Packet) (n : ℕ) (es : List CursorEntry) (next : ℕ) → IsUsable number ps n es next → IsAtLeast next (nearest number ps n es)
usable_covered number ps n es next h =
    let low : seek_start ps n ≤ h.cursor.next = omega (arith, h.stands, h.from_key) in
    let high : h.cursor.next ≤ n + 1 = omega (arith, h.stands, h.to_packet) in
    let usable : is_between number (seek_start ps n) (n + 1) (number, h.cursor) ≡ true =
    and_from (number == number) (nat_le (seek_start ps n) h.cursor.next && nat_le h.cursor.next (n + 1)) (eq-eqb number number refl)
    (and_from (nat_le (seek_start ps n) h.cursor.next) (nat_le h.cursor.next (n + 1)) (le-leb (seek_start ps n) h.cursor.next low) (le-leb h.cursor.next (n + 1) high)) in
    subst (λ m. IsAtLeast m (nearest number ps n es)) h.stands (nearest_covers number (seek_start ps n) (n + 1) es (number, h.cursor) h.listed usable)

usable_there : (number : ℕ) (ps : List Packet) (n : ℕ) (es : List CursorEntry) (next : ℕ) → nearest number ps n es ≡ Some next → IsUsable number ps n es next
usable_there number ps n es next is =
    let there : IsThere number (Some next) es = subst (λ o. IsThere number o es) is (nearest_there number (seek_start ps n) (n + 1) es) in
    let range : InRange (seek_start ps n) (n + 1) (Some next) = subst (λ o. InRange (seek_start ps n) (n + 1) o) is (nearest_range number (seek_start ps n) (n + 1) es) in
    let e = there.0 in
    let stands = stood number next e there.2 in
    let same : e ≡ (number, e.1) = λ j. (stands.0 j, e.1) in
    record { cursor = e.1; listed = subst (Contains es) same there.1; stands = stands.1; from_key = range.0; to_packet = range.1 }

pub nearest_is_usable : NearestIsUsable
nearest_is_usable number ps n es next is = (
  usable_there number ps n es next is,
  λ other usable. subst (λ o. IsAtLeast other o) is (usable_covered number ps n es other usable),
)

pub none_is_usable : NoneIsUsable
none_is_usable number ps n es next is usable = subst (λ o. IsAtLeast next o) is (usable_covered number ps n es next usable)

-- ---- what it costs

pub nearest_goes_on : NearestGoesOn
nearest_goes_on number ps n es next within is =
    let range : InRange (seek_start ps n) (n + 1) (Some next) = subst (λ o. InRange (seek_start ps n) (n + 1) o) is (nearest_range number (seek_start ps n) (n + 1) es) in
    least_is number ps n es within ∙ (ap (work_there ps n) is ∙ between ps next n within range.0 range.1)

pub none_starts_at_the_key : NoneStartsAtTheKey
none_starts_at_the_key number ps n es is =
    elim (cases_lt n (length ps)) [
      | inl within ↦ least_is number ps n es within ∙ ap (work_there ps n) is
      | inr past ↦ least_none number ps n es past ∙ sym (no_work ps n past)
    ]

pub others_save_nothing : OthersSaveNothing
others_save_nothing number ps n [] apart = refl
others_save_nothing number ps n (f ∷ es) apart = (elim (f.0 == number)
    as (λ b. (f.0 == number) ≡ b → cond b (min (work_from ps f.1.next n) (least_work number ps n es)) (least_work number ps n es) ≡ work_of ps n) [
      | true ↦ λ h. absurd (apart f (Contains-head f es) (eqb-true f.0 number h))
      | false ↦ λ h. others_save_nothing number ps n es (λ e at. apart e (Contains-tail f es e at))
    ]) refl

-- ---- where it stands afterwards

first_of : (capacity : ℕ) (e : CursorEntry) (es : List CursorEntry) → 0 < capacity → slice_get (take capacity (e ∷ es)) 0 ≡ Some e
first_of zero e es room = absurd (omega (arith, room))
first_of (suc k) e es room = refl

pub used_is_first : UsedIsFirst
used_is_first old number s n room within =
    rw (lt-ltb n (length s.reading.packets) within)
    (first_of old.capacity (number, cursor_behind s.limits s.reading.packets (n + 1)) (without number (nearest number s.reading.packets n old.entries) old.entries) room)

-- the one that stands there is taken away
one_fewer : (number next : ℕ) (es : List CursorEntry) (e : CursorEntry) → Contains es e → stands_behind number next e ≡ true → suc (length (without_first number next es)) ≡ length es
one_fewer number next [] e at stands = absurd (omega (arith, at.1))
one_fewer number next (f ∷ es) e at stands = (elim (stands_behind number next f)
    as (λ b. stands_behind number next f ≡ b → suc (length (cond b es (f ∷ without_first number next es))) ≡ length (f ∷ es)) [
      | true ↦ λ h. omega arith
      | false ↦ λ h. elim (Contains-cons f es e at) [
        | inl same ↦ absurd (both_ways (stands_behind number next f) h (subst (λ (g : CursorEntry). stands_behind number next g ≡ true) (sym same) stands))
        | inr later ↦ omega (arith, one_fewer number next es e later stands)
      ]
    ]) refl

pub used_is_moved : UsedIsMoved
used_is_moved old number s n next room is = (elim (nat_lt n (length s.reading.packets))
    as (λ b. length (cond b (in_front old number s.reading.packets n (cursor_behind s.limits s.reading.packets (n + 1))) old).entries ≡ length old.entries) [
      | true ↦
          let ps = s.reading.packets in
          let used : CursorEntry = (number, cursor_behind s.limits ps (n + 1)) in
          let there : IsThere number (Some next) old.entries =
          subst (λ o. IsThere number o old.entries) is (nearest_there number (seek_start ps n) (n + 1) old.entries) in
          let one : suc (length (without_first number next old.entries)) ≡ length old.entries = one_fewer number next old.entries there.0 there.1 there.2 in
          let rest : without number (nearest number ps n old.entries) old.entries ≡ without_first number next old.entries = ap (λ o. without number o old.entries) is in
          ap (λ l. length (take old.capacity (used ∷ l))) rest
          ∙ (ap length (take_all old.capacity (used ∷ without_first number next old.entries) (omega (arith, one, room))) ∙ one)
      | false ↦ refl
    ])

pub new_one_comes : NewOneComes
new_one_comes old number s n within is =
    let ps = s.reading.packets in
    let used : CursorEntry = (number, cursor_behind s.limits ps (n + 1)) in
    let rest : without number (nearest number ps n old.entries) old.entries ≡ old.entries = ap (λ o. without number o old.entries) is in
    rw (lt-ltb n (length ps) within)
    (ap (λ l. length (take old.capacity (used ∷ l))) rest
    ∙ omega (arith, length-take old.capacity (used ∷ old.entries)))

pub cursors_hold_answers : CursorsHoldAnswers
cursors_hold_answers number s es c n kept listed at =
    let is = kept.each (number, c) listed refl in
    let within : n < length s.reading.packets = omega (arith, is.within, at) in
    ap (λ (d : Cursor). d.last) (is.decoded ∙ ap (λ m. cursor_behind s.limits s.reading.packets m) at)
    ∙ answer_behind s.limits s.reading.packets n within

pub none_is_let_go : NoneIsLetGo
none_is_let_go old number s n next e room is at apart = (elim (nat_lt n (length s.reading.packets))
    as (λ b. Contains (cond b (in_front old number s.reading.packets n (cursor_behind s.limits s.reading.packets (n + 1))) old).entries e) [
      | true ↦
          let ps = s.reading.packets in
          let used : CursorEntry = (number, cursor_behind s.limits ps (n + 1)) in
          let there : IsThere number (Some next) old.entries =
          subst (λ o. IsThere number o old.entries) is (nearest_there number (seek_start ps n) (n + 1) old.entries) in
          let one : suc (length (without_first number next old.entries)) ≡ length old.entries = one_fewer number next old.entries there.0 there.1 there.2 in
          let rest = without number (nearest number ps n old.entries) old.entries in
          let same : length rest ≡ length (without_first number next old.entries) = ap (λ o. length (without number o old.entries)) is in
          subst (λ l. Contains l e) (sym (take_all old.capacity (used ∷ rest) (omega (arith, same, one, room))))
          (Contains-tail used rest e (one_stays number (nearest number ps n old.entries) old.entries e at apart))
      | false ↦ at
    ])

get_take : (m k : ℕ) (l : List CursorEntry) → k < m → slice_get (take m l) k ≡ slice_get l k
get_take zero k l h = absurd (omega (arith, h))
get_take (suc m) k [] h = refl
get_take (suc m) zero (x ∷ l) h = refl
get_take (suc m) (suc k) (x ∷ l) h = get_take m k l (omega (arith, h))

pub last_is_let_go : LastIsLetGo
last_is_let_go old number s n i within is room =
    let ps = s.reading.packets in
    let used : CursorEntry = (number, cursor_behind s.limits ps (n + 1)) in
    let step : i + 1 ≡ suc i = omega arith in
    rw (lt-ltb n (length ps) within)
    (get_take old.capacity (i + 1) (used ∷ without number (nearest number ps n old.entries) old.entries) room
    ∙ (ap (λ o. slice_get (used ∷ without number o old.entries) (i + 1)) is ∙ ap (λ j. slice_get (used ∷ old.entries) j) step))

same_room : (old : Cursors) (number : ℕ) (s : StreamState) (n : ℕ) → (after_picture old number s n).capacity ≡ old.capacity
same_room old number s n = (elim (nat_lt n (length s.reading.packets))
    as (λ b. (cond b (in_front old number s.reading.packets n (cursor_behind s.limits s.reading.packets (n + 1))) old).capacity ≡ old.capacity) [
      | true ↦ refl
      | false ↦ refl
    ])

next_ones : (more : ℕ) (old : Cursors) (number : ℕ) (s : StreamState) (n : ℕ) → 0 < old.capacity → n + more < length s.reading.packets
    → work_in_order number s (n + 1) more (after_picture old number s n) ≤ more
next_ones zero old number s n room within = omega arith
next_ones (suc more) old number s n room within =
    let one = next_costs_one old number s n room (omega (arith, within)) in
    let rest = next_ones more (after_picture old number s n) number s (n + 1) (omega (arith, room, same_room old number s n)) (omega (arith, within)) in
    omega (arith, one, rest)

pub in_order_costs_one_each : InOrderCostsOneEach
in_order_costs_one_each old number s n more room within =
    omega (arith, costs_no_more number s.reading.packets n old.entries, next_ones more old number s n room within)
