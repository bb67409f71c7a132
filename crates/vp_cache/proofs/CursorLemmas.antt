-- Lists of cursors: which goes on, what it costs, and what is kept.
use Rattle.std.proofs.Common.{◌≡◌, ◌≢◌, ℕ, zero, suc, ◌+◌, ◌<◌, ◌≤◌, min, max, Bool, true, false, cond, ◌&&◌, List, [], ◌∷◌, ◌++◌, length, take, Option, Some, None, ◌⊎◌, refl, sym, ap, subst, ◌∙◌, inl, inr, arith}
use Rattle.std.specs.Prelude.{◌==◌, nat_le, nat_lt, get_or, position, remove, Contains, Result, Ok, Err, OnOk}
use Rattle.vp_base.specs.declared.limits.Limits.{Limits}
use Rattle.std.specs.List.{position_or_len}
use Rattle.std.proofs.lemmas.Bool.{both_ways, and_parts, and_from, leb-true, le-leb, eqb-true, eq-eqb, lt-ltb, cases_lt}
use Rattle.std.proofs.lemmas.List.{take_more, take_all}
use Rattle.std.proofs.lemmas.List.Quantifiers.{position-Some}
use Rattle.std.proofs.lemmas.List.Sums.{fails_before_first}
use Rattle.lru.proofs.Splits.{Contains-cons, Contains-head, Contains-tail}
use Rattle.lru.proofs.CallerLemmas.{Contains-take}
use Rattle.vp_ivf.specs.declared.packet.Packet.{Packet}
use Rattle.vp_stream.specs.Seeking.{seek_start, work_of}
use Rattle.vp_stream.specs.Stream.{Stream as StreamState}
use Rattle.vp_stream.specs.Cursor.{Cursor, IsCursorOf, initial_cursor, cursor_behind, work_from, next_after}
use Rattle.vp_stream.proofs.CursorLemmas.{between, before_key, past_it, no_more, nothing_there, goes_behind, next_behind, one_each, again}
use Rattle.vp_stream.proofs.AnswerLemmas.{no_work}
use Rattle.vp_cache.specs.Cursors.{CursorEntry, AreCursorsOf, Cursors, IsChosen, is_between, greater, nearest_between, nearest, stands_behind, without_first, without, in_front, after_picture, least_work}
use Rattle.vp_cache.specs.Streams.{CursorsCostNoMore, NoneIsNearer, NextCostsOne, AgainCostsNone, OthersStay}

-- ---- the nearest of a list with one more at its end

greater_swap : (a b : ℕ) (o : Option ℕ) → greater a (greater b o) ≡ greater b (greater a o)
greater_swap a b None = let e : max a b ≡ max b a = omega arith in ap Some e
greater_swap a b (Some c) = let e : max a (max b c) ≡ max b (max a c) = omega arith in ap Some e

greater_last : (first last : Bool) (a b : ℕ) (rest all : Option ℕ) → all ≡ cond last (greater b rest) rest
    → cond first (greater a all) all ≡ cond last (greater b (cond first (greater a rest) rest)) (cond first (greater a rest) rest)
greater_last true true a b rest all is = ap (greater a) is ∙ greater_swap a b rest
greater_last true false a b rest all is = ap (greater a) is
greater_last false true a b rest all is = is
greater_last false false a b rest all is = is

nearest-push : (number start end : ℕ) (es : List CursorEntry) (e : CursorEntry)
    → nearest_between number start end (es ++ e ∷ []) ≡ cond (is_between number start end e) (greater e.1.next (nearest_between number start end es)) (nearest_between number start end es)
nearest-push number start end [] e = refl
nearest-push number start end (f ∷ es) e =
    greater_last (is_between number start end f) (is_between number start end e) f.1.next e.1.next (nearest_between number start end es) (nearest_between number start end (es ++ e ∷ []))
    (nearest-push number start end es e)

pub nearest_more : (number start end : ℕ) (es : List CursorEntry) (i : ℕ) (e : CursorEntry) → i < length es → e ≡ get_or es i e
    → nearest_between number start end (take (i + 1) es)
    ≡ cond (is_between number start end e) (greater e.1.next (nearest_between number start end (take i es))) (nearest_between number start end (take i es))
nearest_more number start end es i e within read =
    let more : take (i + 1) es ≡ take i es ++ e ∷ [] = take_more es i e within ∙ ap (λ x. take i es ++ x ∷ []) (sym read) in
    ap (nearest_between number start end) more ∙ nearest-push number start end (take i es) e

pub nearest_step : (number start end : ℕ) (es : List CursorEntry) (i : ℕ) (e : CursorEntry) (before after : Option ℕ) (b : Bool) → i < length es → e ≡ get_or es i e
    → before ≡ nearest_between number start end (take i es) → b ≡ is_between number start end e → after ≡ cond b (greater e.1.next before) before
    → after ≡ nearest_between number start end (take (i + 1) es)
nearest_step number start end es i e before after b within read before_is b_is after_is =
    after_is
    ∙ ((λ j. cond (b_is j) (greater e.1.next (before_is j)) (before_is j)) ∙ sym (nearest_more number start end es i e within read))

-- ---- the nearest is there

is_standing : (number next : ℕ) (e : CursorEntry) → e.0 ≡ number → e.1.next ≡ next → stands_behind number next e ≡ true
is_standing number next e a b = and_from (e.0 == number) (e.1.next == next) (eq-eqb e.0 number a) (eq-eqb e.1.next next b)

pub stood : (number next : ℕ) (e : CursorEntry) → stands_behind number next e ≡ true → (e.0 ≡ number) × (e.1.next ≡ next)
stood number next e h =
    let p = and_parts (e.0 == number) (e.1.next == next) h in
    (eqb-true e.0 number p.0, eqb-true e.1.next next p.1)

abbrev pub IsBetween : ℕ → ℕ → ℕ → CursorEntry → Type 0
IsBetween number start end e = (e.0 ≡ number) × (start ≤ e.1.next) × (e.1.next ≤ end)

pub is_between-true : (number start end : ℕ) (e : CursorEntry) → is_between number start end e ≡ true → IsBetween number start end e
is_between-true number start end e h =
    let p = and_parts (e.0 == number) (nat_le start e.1.next && nat_le e.1.next end) h in
    let q = and_parts (nat_le start e.1.next) (nat_le e.1.next end) p.1 in
    (eqb-true e.0 number p.0, leb-true start e.1.next q.0, leb-true e.1.next end q.1)

-- a cursor of the list stands there
abbrev pub IsThere : ℕ → Option ℕ → List CursorEntry → Type 0
IsThere number None es = Unit {0}
IsThere number (Some next) es = (e : CursorEntry) × Contains es e × (stands_behind number next e ≡ true)

later_there : (number : ℕ) (o : Option ℕ) (f : CursorEntry) (es : List CursorEntry) → IsThere number o es → IsThere number o (f ∷ es)
later_there number None f es h = tt
later_there number (Some next) f es h = (h.0, Contains-tail f es h.0 h.1, h.2)

which : (a b m : ℕ) → max a b ≡ m → (a ≡ m) ⊎ (b ≡ m)
which a b m h = elim (cases_lt a b) [
  | inl lt ↦ inr (omega arith)
  | inr ge ↦ inl (omega arith)
]

greater_there : (number : ℕ) (o : Option ℕ) (f : CursorEntry) (es : List CursorEntry) → f.0 ≡ number → IsThere number o es → IsThere number (greater f.1.next o) (f ∷ es)
greater_there number None f es same h = (f, Contains-head f es, is_standing number f.1.next f same refl)
greater_there number (Some next) f es same h = elim (which f.1.next next (max f.1.next next) refl) [
  | inl this ↦ (f, Contains-head f es, is_standing number (max f.1.next next) f same this)
  | inr later ↦ (h.0, Contains-tail f es h.0 h.1, subst (λ m. stands_behind number m h.0 ≡ true) later h.2)
]

pub nearest_there : (number start end : ℕ) (es : List CursorEntry) → IsThere number (nearest_between number start end es) es
nearest_there number start end [] = tt
nearest_there number start end (f ∷ es) = (elim (is_between number start end f)
    as (λ b. is_between number start end f ≡ b → IsThere number (cond b (greater f.1.next (nearest_between number start end es)) (nearest_between number start end es)) (f ∷ es)) [
      | true ↦ λ h. greater_there number (nearest_between number start end es) f es (is_between-true number start end f h).0 (nearest_there number start end es)
      | false ↦ λ h. later_there number (nearest_between number start end es) f es (nearest_there number start end es)
    ]) refl

all_fail : (p : CursorEntry → Bool) (es : List CursorEntry) → position p es ≡ None → length es ≤ position_or_len p es
all_fail p es h = elim (cases_lt (position_or_len p es) (length es)) [
  | inl lt ↦ let e : Some (position_or_len p es) ≡ None = rw (lt-ltb (position_or_len p es) (length es) lt) at h in cc
  | inr ge ↦ ge
]

not_missing : (number next : ℕ) (es : List CursorEntry) (o : Option ℕ) → o ≡ Some next → IsThere number o es → position (λ e. stands_behind number next e) es ≡ None → ⊥
not_missing number next es None is h none = cc
not_missing number next es (Some m) is h none =
    let same : m ≡ next = cc in
    let e = h.0 in
    let at = h.1 in
    let past = all_fail (λ x. stands_behind number next x) es none in
    let fails = fails_before_first (λ x. stands_behind number next x) es at.0 e (omega (arith, at.1)) in
    both_ways (stands_behind number next e) (subst (λ x. stands_behind number next x ≡ false) at.2 fails) (subst (λ k. stands_behind number k e ≡ true) same h.2)

pub nearest_found : (number start end next : ℕ) (es : List CursorEntry) → nearest_between number start end es ≡ Some next
    → position (λ e. stands_behind number next e) es ≡ None → ⊥
nearest_found number start end next es is none = not_missing number next es (nearest_between number start end es) is (nearest_there number start end es) none

-- ---- one is taken

removed_at : (number next : ℕ) (es : List CursorEntry) (i : ℕ) (d : CursorEntry) → i < length es → stands_behind number next (get_or es i d) ≡ true
    → ((k : ℕ) → k < i → stands_behind number next (get_or es k d) ≡ false) → remove es i ≡ without_first number next es
removed_at number next [] i d within at before = absurd (omega (arith, within))
removed_at number next (f ∷ es) zero d within at before = rw at refl
removed_at number next (f ∷ es) (suc i) d within at before =
    rw (before 0 (omega arith)) (ap (λ rest. f ∷ rest) (removed_at number next es i d (omega (arith, within)) at (λ k lt. before (suc k) (omega arith))))

pub removed : (number next : ℕ) (es : List CursorEntry) (i : ℕ) (d : CursorEntry) → position (λ e. stands_behind number next e) es ≡ Some i → remove es i ≡ without_first number next es
removed number next es i d is =
    let at = position-Some (λ e. stands_behind number next e) es i d is in
    removed_at number next es i d at.0 at.1 at.2

pub taken : (number next : ℕ) (es : List CursorEntry) (i : ℕ) (e : CursorEntry) → position (λ x. stands_behind number next x) es ≡ Some i → e ≡ get_or es i e
    → (e.1.next ≡ next) × Contains es (number, e.1)
taken number next es i e is read =
    let at = position-Some (λ x. stands_behind number next x) es i e is in
    let stands = stood number next e (subst (λ x. stands_behind number next x ≡ true) (sym read) at.1) in
    let same : e ≡ (number, e.1) = λ j. (stands.0 j, e.1) in
    (stands.1, subst (Contains es) same (i, at.0, sym read))

-- what was read of the list
pub nearest_seen : (number start end : ℕ) (es seen : List CursorEntry) (found o : Option ℕ) → seen ≡ es → found ≡ nearest_between number start end seen → found ≡ o
    → nearest_between number start end es ≡ o
nearest_seen number start end es seen found o same is was = sym (ap (nearest_between number start end) same) ∙ (sym is ∙ was)

pub place_seen : (number next : ℕ) (es seen : List CursorEntry) (found o : Option ℕ) → seen ≡ es → found ≡ position (λ e. stands_behind number next e) seen → found ≡ o
    → position (λ e. stands_behind number next e) es ≡ o
place_seen number next es seen found o same is was = sym (ap (position (λ e. stands_behind number next e)) same) ∙ (sym is ∙ was)

-- ---- what it costs

abbrev pub InRange : ℕ → ℕ → Option ℕ → Type 0
InRange start end None = Unit {0}
InRange start end (Some next) = (start ≤ next) × (next ≤ end)

greater_range : (start end a : ℕ) (o : Option ℕ) → start ≤ a → a ≤ end → InRange start end o → InRange start end (greater a o)
greater_range start end a None low high h = (low, high)
greater_range start end a (Some b) low high h = (omega (arith, h.0), omega (arith, h.1))

pub nearest_range : (number start end : ℕ) (es : List CursorEntry) → InRange start end (nearest_between number start end es)
nearest_range number start end [] = tt
nearest_range number start end (f ∷ es) = (elim (is_between number start end f)
    as (λ b. is_between number start end f ≡ b → InRange start end (cond b (greater f.1.next (nearest_between number start end es)) (nearest_between number start end es))) [
      | true ↦ λ h.
          let within = is_between-true number start end f h in
          greater_range start end f.1.next (nearest_between number start end es) within.1 within.2 (nearest_range number start end es)
      | false ↦ λ h. nearest_range number start end es
    ]) refl

-- what a cursor there costs, or none
abbrev pub work_there : List Packet → ℕ → Option ℕ → ℕ
work_there ps n None = work_of ps n
work_there ps n (Some next) = work_from ps next n

there_le : (ps : List Packet) (n : ℕ) (o : Option ℕ) → work_there ps n o ≤ work_of ps n
there_le ps n None = omega arith
there_le ps n (Some next) = no_more ps next n

nearer : (ps : List Packet) (n next : ℕ) (o : Option ℕ) → n < length ps → seek_start ps n ≤ next → next ≤ n + 1 → InRange (seek_start ps n) (n + 1) o
    → min (work_from ps next n) (work_there ps n o) ≡ work_there ps n (greater next o)
nearer ps n next None within low high h = let le = no_more ps next n in omega (arith, le)
nearer ps n next (Some m) within low high h =
    let a = between ps next n within low high in
    let b = between ps m n within h.0 h.1 in
    let c = between ps (max next m) n within (omega (arith, low, h.0)) (omega (arith, high, h.1)) in
    omega (arith, a, b, c)

elsewhere : (ps : List Packet) (n next : ℕ) (b : Bool) → (nat_le (seek_start ps n) next && nat_le next (n + 1)) ≡ b → b ≡ false → work_from ps next n ≡ work_of ps n
elsewhere ps n next b is off = elim (cases_lt next (seek_start ps n)) [
  | inl lt ↦ before_key ps next n (omega arith)
  | inr ge ↦ elim (cases_lt (n + 1) next) [
    | inl lt ↦ past_it ps next n lt
    | inr le ↦
        absurd (both_ways (nat_le (seek_start ps n) next && nat_le next (n + 1)) (is ∙ off)
        (and_from (nat_le (seek_start ps n) next) (nat_le next (n + 1)) (le-leb (seek_start ps n) next ge) (le-leb next (n + 1) le)))
  ]
]

least_step : (ps : List Packet) (n next rest : ℕ) (o : Option ℕ) (own usable : Bool) → n < length ps → (nat_le (seek_start ps n) next && nat_le next (n + 1)) ≡ usable
    → InRange (seek_start ps n) (n + 1) o → rest ≡ work_there ps n o
    → cond own (min (work_from ps next n) rest) rest ≡ work_there ps n (cond (own && usable) (greater next o) o)
least_step ps n next rest o false usable within is range rest_is = rest_is
least_step ps n next rest o true true within is range rest_is =
    let p = and_parts (nat_le (seek_start ps n) next) (nat_le next (n + 1)) is in
    ap (λ r. min (work_from ps next n) r) rest_is
    ∙ nearer ps n next o within (leb-true (seek_start ps n) next p.0) (leb-true next (n + 1) p.1) range
least_step ps n next rest o true false within is range rest_is =
    let far = elsewhere ps n next false is refl in
    let le = there_le ps n o in
    omega (arith, far, le, rest_is)

pub least_is : (number : ℕ) (ps : List Packet) (n : ℕ) (es : List CursorEntry) → n < length ps → least_work number ps n es ≡ work_there ps n (nearest number ps n es)
least_is number ps n [] within = refl
least_is number ps n (e ∷ es) within =
    least_step ps n e.1.next (least_work number ps n es) (nearest number ps n es) (e.0 == number) (nat_le (seek_start ps n) e.1.next && nat_le e.1.next (n + 1)) within refl
    (nearest_range number (seek_start ps n) (n + 1) es) (least_is number ps n es within)

pub least_none : (number : ℕ) (ps : List Packet) (n : ℕ) (es : List CursorEntry) → length ps ≤ n → least_work number ps n es ≡ 0
least_none number ps n [] past = no_work ps n past
least_none number ps n (e ∷ es) past = none_by (e.0 == number) (work_from ps e.1.next n) (least_work number ps n es) (nothing_there ps e.1.next n past) (least_none number ps n es past)
  where
    none_by : (own : Bool) (a rest : ℕ) → a ≡ 0 → rest ≡ 0 → cond own (min a rest) rest ≡ 0
    none_by true a rest x y = omega (arith, x, y)
    none_by false a rest x y = y

chosen_work : (limits : Limits) (number : ℕ) (ps : List Packet) (n : ℕ) (o : Option ℕ) (es : List CursorEntry) (c : Cursor) → IsChosen limits number o es c → work_from ps c.next n ≡ work_there ps n o
chosen_work limits number ps n None es c is = ap (λ (d : Cursor). work_from ps d.next n) is ∙ before_key ps 0 n (omega arith)
chosen_work limits number ps n (Some next) es c is = ap (λ m. work_from ps m n) is.0

pub used_work : (limits : Limits) (number : ℕ) (ps : List Packet) (n start : ℕ) (es was : List CursorEntry) (c : Cursor) → n < length ps → start ≡ seek_start ps n → was ≡ es
    → IsChosen limits number (nearest_between number start (n + 1) was) was c → work_from ps c.next n ≡ least_work number ps n es
used_work limits number ps n start es was c within start_is same is =
    chosen_work limits number ps n (nearest number ps n es) es c
    (subst (λ l. IsChosen limits number (nearest number ps n l) l c) same (subst (λ s. IsChosen limits number (nearest_between number s (n + 1) was) was c) start_is is))
    ∙ sym (least_is number ps n es within)

-- ---- cursors of the stream

new_stands : (limits : Limits) (s : StreamState) → s.limits ≡ limits → IsCursorOf (initial_cursor limits) s
new_stands limits s same = record { within = omega arith; decoded = ap initial_cursor (sym same) }

pub chosen_stands : (limits : Limits) (number : ℕ) (s : StreamState) (o : Option ℕ) (es was : List CursorEntry) (c : Cursor) → s.limits ≡ limits → was ≡ es → AreCursorsOf number s es
    → IsChosen limits number o was c → IsCursorOf c s
chosen_stands limits number s None es was c same kept_is kept is = subst (λ (d : Cursor). IsCursorOf d s) (sym is) (new_stands limits s same)
chosen_stands limits number s (Some next) es was c same kept_is kept is = kept.each (number, c) (subst (λ l. Contains l (number, c)) kept_is is.1) refl

-- ---- the list afterwards

first_gone : (number next : ℕ) (es : List CursorEntry) (e : CursorEntry) → Contains (without_first number next es) e → Contains es e
first_gone number next [] e c = c
first_gone number next (f ∷ es) e c = (elim (stands_behind number next f) as (λ b. stands_behind number next f ≡ b → Contains (f ∷ es) e) [
  | true ↦ λ h. Contains-tail f es e (rw h at c)
  | false ↦ λ h. elim (Contains-cons f (without_first number next es) e (rw h at c)) [
    | inl same ↦ subst (Contains (f ∷ es)) same (Contains-head f es)
    | inr later ↦ Contains-tail f es e (first_gone number next es e later)
  ]
]) refl

one_gone : (number : ℕ) (o : Option ℕ) (es : List CursorEntry) (e : CursorEntry) → Contains (without number o es) e → Contains es e
one_gone number None es e c = c
one_gone number (Some next) es e c = first_gone number next es e c

-- each was there, or is the one in front
in_it : (number capacity : ℕ) (c : Cursor) (o : Option ℕ) (es : List CursorEntry) (e : CursorEntry) → Contains (take capacity ((number, c) ∷ without number o es)) e
    → ((number, c) ≡ e) ⊎ Contains es e
in_it number capacity c o es e at = elim (Contains-cons (number, c) (without number o es) e (Contains-take capacity ((number, c) ∷ without number o es) e at)) [
  | inl same ↦ inl same
  | inr later ↦ inr (one_gone number o es e later)
]

pub front_kept : (old : Cursors) (number : ℕ) (s : StreamState) (ps : List Packet) (n : ℕ) (c : Cursor) → IsCursorOf c s → AreCursorsOf number s old.entries
    → AreCursorsOf number s (in_front old number ps n c).entries
front_kept old number s ps n c is kept = record {
  each = λ e at same. elim (in_it number old.capacity c (nearest number ps n old.entries) old.entries e at) [
    | inl this ↦ subst (λ (f : CursorEntry). IsCursorOf f.1 s) this is
    | inr was ↦ kept.each e was same
  ];
}

pub front_others : (old : Cursors) (number : ℕ) (ps : List Packet) (n : ℕ) (c : Cursor) (other : ℕ) (s : StreamState) → other ≢ number → AreCursorsOf other s old.entries
    → AreCursorsOf other s (in_front old number ps n c).entries
front_others old number ps n c other s apart kept = record {
  each = λ e at same. elim (in_it number old.capacity c (nearest number ps n old.entries) old.entries e at) [
    | inl this ↦ absurd (apart (sym same ∙ ap (λ (f : CursorEntry). f.0) (sym this)))
    | inr was ↦ kept.each e was same
  ];
}

pub front_is : (old : Cursors) (was rest after : List CursorEntry) (capacity : ℕ) (limits : Limits) (number : ℕ) (ps : List Packet) (n start : ℕ) (c : Cursor)
    → record { entries = was; capacity = capacity; limits = limits } ≡ old → start ≡ seek_start ps n
    → rest ≡ without number (nearest_between number start (n + 1) was) was → after ≡ take capacity ((number, c) ∷ rest)
    → record { entries = after; capacity = capacity; limits = limits } ≡ in_front old number ps n c
front_is old was rest after capacity limits number ps n start c same start_is rest_is after_is =
    let left : rest ≡ without number (nearest number ps n was) was = rest_is ∙ ap (λ m. without number (nearest_between number m (n + 1) was) was) start_is in
    (λ j. record { entries = after_is j; capacity = capacity; limits = limits })
    ∙ ((λ j. record { entries = take capacity ((number, c) ∷ left j); capacity = capacity; limits = limits })
    ∙ ap (λ (o : Cursors). in_front o number ps n c) same)

pub after_used : {X Y : Type 0} (r : Result X Y) (old new : Cursors) (number : ℕ) (s : StreamState) (n next : ℕ) (c : Cursor) → n < length s.reading.packets
    → new ≡ in_front old number s.reading.packets n c → IsCursorOf c s → OnOk r (c.next ≡ next_after s.reading.packets next n) → OnOk r (new ≡ after_picture old number s n)
after_used (Ok x) old new number s n next c within is stands at =
    let behind : c ≡ cursor_behind s.limits s.reading.packets (n + 1) =
    stands.decoded ∙ ap (λ m. cursor_behind s.limits s.reading.packets m) (at ∙ goes_behind s.reading.packets next n within) in
    rw (lt-ltb n (length s.reading.packets) within) (is ∙ ap (λ d. in_front old number s.reading.packets n d) behind)
after_used (Err y) old new number s n next c within is stands at = tt

-- ---- what cursors save

min_of : (own : Bool) (a rest : ℕ) → cond own (min a rest) rest ≤ rest
min_of true a rest = omega arith
min_of false a rest = omega arith

pub costs_no_more : CursorsCostNoMore
costs_no_more number ps n [] = omega arith
costs_no_more number ps n (e ∷ es) =
    let first = min_of (e.0 == number) (work_from ps e.1.next n) (least_work number ps n es) in
    let later = costs_no_more number ps n es in
    omega (arith, first, later)

own_of : (a b rest : ℕ) (f number : ℕ) → f ≡ number → cond (f == number) (min a rest) rest ≤ a
own_of a b rest f number same = rw (eq-eqb f number same) (omega arith)

pub none_nearer : NoneIsNearer
none_nearer number ps n [] e at same = absurd (omega (arith, at.1))
none_nearer number ps n (f ∷ es) e at same = elim (Contains-cons f es e at) [
  | inl this ↦
      subst (λ (g : CursorEntry). least_work number ps n (f ∷ es) ≤ work_from ps g.1.next n) this
      (own_of (work_from ps f.1.next n) 0 (least_work number ps n es) f.0 number (ap (λ (g : CursorEntry). g.0) this ∙ same))
  | inr later ↦
      let first = min_of (f.0 == number) (work_from ps f.1.next n) (least_work number ps n es) in
      let rest = none_nearer number ps n es e later same in
      omega (arith, first, rest)
]

first_stays : (capacity : ℕ) (e : CursorEntry) (es : List CursorEntry) → 0 < capacity → Contains (take capacity (e ∷ es)) e
first_stays zero e es room = absurd (omega (arith, room))
first_stays (suc k) e es room = Contains-head e (take k es)

used_there : (old : Cursors) (number : ℕ) (s : StreamState) (n : ℕ) → 0 < old.capacity → n < length s.reading.packets
    → Contains (after_picture old number s n).entries (number, cursor_behind s.limits s.reading.packets (n + 1))
used_there old number s n room within =
    rw (lt-ltb n (length s.reading.packets) within)
    (first_stays old.capacity (number, cursor_behind s.limits s.reading.packets (n + 1)) (without number (nearest number s.reading.packets n old.entries) old.entries) room)

pub next_costs_one : NextCostsOne
next_costs_one old number s n room within =
    let behind = cursor_behind s.limits s.reading.packets (n + 1) in
    let at : behind.next ≡ n + 1 = next_behind s.limits s.reading.packets (n + 1) (omega arith) in
    let most = none_nearer number s.reading.packets (n + 1) (after_picture old number s n).entries (number, behind) (used_there old number s n room (omega arith)) refl in
    let one : work_from s.reading.packets behind.next (n + 1) ≡ 1 = ap (λ m. work_from s.reading.packets m (n + 1)) at ∙ one_each s.reading.packets (n + 1) within in
    omega (arith, most, one)

pub again_costs_none : AgainCostsNone
again_costs_none old number s n room within =
    let behind = cursor_behind s.limits s.reading.packets (n + 1) in
    let at : behind.next ≡ n + 1 = next_behind s.limits s.reading.packets (n + 1) (omega arith) in
    let most = none_nearer number s.reading.packets n (after_picture old number s n).entries (number, behind) (used_there old number s n room within) refl in
    let none : work_from s.reading.packets behind.next n ≡ 0 = ap (λ m. work_from s.reading.packets m n) at ∙ again s.reading.packets n in
    omega (arith, most, none)

first_stands : (number next : ℕ) (es : List CursorEntry) (e : CursorEntry) → Contains es e → ((e.0 ≡ number) → (e.1.next ≡ next) → ⊥) → Contains (without_first number next es) e
first_stands number next [] e at apart = absurd (omega (arith, at.1))
first_stands number next (f ∷ es) e at apart = (elim (stands_behind number next f) as (λ b. stands_behind number next f ≡ b → Contains (cond b es (f ∷ without_first number next es)) e) [
  | true ↦ λ h. elim (Contains-cons f es e at) [
    | inl same ↦
        let is = stood number next f h in
        absurd (apart (ap (λ (g : CursorEntry). g.0) (sym same) ∙ is.0) (ap (λ (g : CursorEntry). g.1.next) (sym same) ∙ is.1))
    | inr later ↦ later
  ]
  | false ↦ λ h. elim (Contains-cons f es e at) [
    | inl same ↦ subst (Contains (f ∷ without_first number next es)) same (Contains-head f (without_first number next es))
    | inr later ↦ Contains-tail f (without_first number next es) e (first_stands number next es e later apart)
  ]
]) refl

pub one_stays : (number : ℕ) (o : Option ℕ) (es : List CursorEntry) (e : CursorEntry) → Contains es e → (e.0 ≢ number) ⊎ (o ≢ Some e.1.next) → Contains (without number o es) e
one_stays number None es e at apart = at
one_stays number (Some next) es e at apart =
    first_stands number next es e at
    (λ a b. elim apart [
      | inl other ↦ other a
      | inr else_where ↦ else_where (ap Some (sym b))
    ])

shorter_by : (b : Bool) (f : CursorEntry) (es rest : List CursorEntry) → length rest ≤ length es → length (cond b es (f ∷ rest)) ≤ length (f ∷ es)
shorter_by true f es rest le = omega arith
shorter_by false f es rest le = omega (arith, le)

first_shorter : (number next : ℕ) (es : List CursorEntry) → length (without_first number next es) ≤ length es
first_shorter number next [] = omega arith
first_shorter number next (f ∷ es) = shorter_by (stands_behind number next f) f es (without_first number next es) (first_shorter number next es)

shorter : (number : ℕ) (o : Option ℕ) (es : List CursorEntry) → length (without number o es) ≤ length es
shorter number None es = omega arith
shorter number (Some next) es = first_shorter number next es

pub others_stay : OthersStay
others_stay old number s n e room at apart = (elim (nat_lt n (length s.reading.packets))
    as (λ b. Contains (cond b (in_front old number s.reading.packets n (cursor_behind s.limits s.reading.packets (n + 1))) old).entries e) [
      | true ↦
          let o = nearest number s.reading.packets n old.entries in
          let new : CursorEntry = (number, cursor_behind s.limits s.reading.packets (n + 1)) in
          let rest = without number o old.entries in
          let less = shorter number o old.entries in
          subst (λ l. Contains l e) (sym (take_all old.capacity (new ∷ rest) (omega (arith, less, room)))) (Contains-tail new rest e (one_stays number o old.entries e at apart))
      | false ↦ at
    ])
