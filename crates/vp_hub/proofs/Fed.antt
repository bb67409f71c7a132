-- Each step adds the piece that it accepts, and ends the stream whose End it accepts.
use Rattle.std.proofs.Common.{append-nil, append_assoc, ◌≡◌, ◌==◌, ◌++◌, ◌≤◌, ℕ, zero, suc, List, [], ◌∷◌, Option, Some, None, Ok, Err, Result, cond, refl, ap, sym, ◌∙◌, arith, Bool, true, false, length, subst, take, option_map}
use Rattle.std.specs.Prelude.{◌||◌, ◌&&◌, is_ok, is_none, slice_get, slice_set}
use Rattle.std.proofs.lemmas.List.{take_all}
use Rattle.std.proofs.lemmas.Option.{same_Some, none-some, slice_get-map, slice_get-get_or}
use Rattle.std.proofs.lemmas.Bool.{eqb-true}
use Rattle.std.proofs.lemmas.Bool.Decides.{nat_tests}
use Rattle.vp_base.specs.declared.limits.Limits.{Limits}
use Rattle.vp_ivf.specs.declared.fault.FileFault.{FileFault}
use Rattle.vp_ivf.specs.declared.fault.FileFault.TheVariants as file_fault
use Rattle.vp_ivf.specs.Ivf.{Contents, resume, read_file, next_head}
use Rattle.vp_ivf.proofs.Growing.{reads_in_pieces}
use Rattle.vp_stream.specs.Answers.{reading_of}
use Rattle.vp_ivf.specs.Reader.{finish_answer, ended_by}
use Rattle.vp_stream.specs.Stream.{stream_refusal, stream_after_end}
use Rattle.vp_heads.specs.Routes.{name_index}
use Rattle.vp_hub.specs.declared.event.Event.{Event}
use Rattle.vp_hub.specs.declared.event.Event.TheVariants.{Feed, End, Open, Bytes, Shut}
use Rattle.vp_hub.specs.declared.event.HubFault.TheVariants.{Ended, Memory}
use Rattle.vp_hub.specs.declared.source.Source.{Source}
use Rattle.vp_hub.specs.Pages.{Streams}
use Rattle.vp_hub.specs.Hub.{Outcome, HubState, HubStep, after_memory, IsStep, at_source, at_place, fed, fed_by, ended_source, is_open_end, ending_by, no_bytes, new_source}
use Rattle.vp_hub.specs.View.{is_memory, IsRun}
use Rattle.vp_hub.specs.Pieces.{is_at, accepted, all_accepted, AreAcceptedPieces, NewStreamsHaveNoBytes, accepts_end, end_accepted, end_by, AreAcceptedEnds, NewStreamsAreOpen}
use Rattle.vp_hub.proofs.Isolation.{memory_is, memory_isn't}

-- the bytes of a stream so far, and whether its end was told
abbrev Past : Type 0
Past = List ℕ × Bool

-- a piece more, and perhaps the end
abbrev more : Past → List ℕ → Bool → Past
more h piece over = (h.0 ++ piece, h.1 || over)

-- the piece that an answer takes
abbrev taken : List ℕ → Outcome → List ℕ
taken piece (Ok reply) = piece
taken piece (Err f) = []

or_assoc : (a b c : Bool) → ((a || b) || c) ≡ (a || (b || c))
or_assoc true b c = refl
or_assoc false b c = refl

or-false : (a : Bool) → (a || false) ≡ a
or-false true = refl
or-false false = refl

nothing_more : (h : Past) → more h [] false ≡ h
nothing_more h = ap (λ (xs : List ℕ). (xs, h.1 || false)) (append-nil h.0) ∙ ap (λ (t : Bool). (h.0, t)) (or-false h.1)

more_twice : (h : Past) (xs ys : List ℕ) (a b : Bool) → more (more h xs a) ys b ≡ more h (xs ++ ys) (a || b)
more_twice h xs ys a b =
    ap (λ (zs : List ℕ). (zs, (h.1 || a) || b)) (append_assoc h.0 xs ys) ∙ ap (λ (t : Bool). (h.0 ++ (xs ++ ys), t)) (or_assoc h.1 a b)

cond_same : {A : Type 0} (t : Bool) (a : A) → cond t a a ≡ a
cond_same true a = refl
cond_same false a = refl

cond_true : (t : Bool) → t ≡ cond t true false
cond_true true = refl
cond_true false = refl

-- with one stream in place of another, each stream is the new one at its place, or what it was
set_there : (k j : ℕ) (ss : List Source) (x y s : Source) → slice_get ss j ≡ Some x → slice_get ss k ≡ Some s
    → slice_get (slice_set ss j y) k ≡ Some (cond (j == k) y s)
set_there k j [] x y s h g = absurd (none-some x h)
set_there zero zero (a ∷ ss) x y s h g = refl
set_there (suc k) zero (a ∷ ss) x y s h g = let e : (zero == suc k) ≡ false = grind (arith, nat_tests) in rw e g
set_there zero (suc j) (a ∷ ss) x y s h g = let e : (suc j == zero) ≡ false = grind (arith, nat_tests) in rw e g
set_there (suc k) (suc j) (a ∷ ss) x y s h g = let e : (suc j == suc k) ≡ (j == k) = grind (arith, nat_tests) in rw e (set_there k j ss x y s h g)

-- ---- the names stay

names_at : (f : Source → Source × Outcome) (streams : Streams) (j : ℕ) (o : Option Source) → (at_source f j streams o).0.names ≡ streams.names
names_at f streams j None = refl
names_at f streams j (Some x) = refl

names_by : (f : Source → Source × Outcome) (streams : Streams) (l : Option ℕ) → (at_place f streams l).0.names ≡ streams.names
names_by f streams None = refl
names_by f streams (Some j) = names_at f streams j (slice_get streams.sources j)

names_after : (old new : HubState) (o : Outcome) (e : Event) → HubStep e old (new, o) → new.streams.names ≡ old.streams.names
names_after old new o (Feed name piece) h = ap (λ (x : HubState × Outcome). x.0.streams.names) h ∙ names_by (fed piece) old.streams (name_index old.streams.names name)
names_after old new o (End name) h = ap (λ (x : HubState × Outcome). x.0.streams.names) h ∙ names_by ended_source old.streams (name_index old.streams.names name)
names_after old new o (Open d) h = ap (λ (x : HubState × Outcome). x.0.streams.names) h
names_after old new o (Bytes d piece) h = ap (λ (s : Streams). s.names) h.1
names_after old new o (Shut d) h = ap (λ (x : HubState × Outcome). x.0.streams.names) h

names_refused : (old : HubState) (e : Event) → (after_memory e old).streams.names ≡ old.streams.names
names_refused old (Feed name piece) = refl
names_refused old (End name) = refl
names_refused old (Open d) = refl
names_refused old (Bytes d piece) = refl
names_refused old (Shut d) = refl

names_stay : (old new : HubState) (e : Event) (o : Outcome) → IsStep old e o new → new.streams.names ≡ old.streams.names
names_stay old new e o step = by_memory (is_memory o) refl
  where
    by_memory : (t : Bool) → is_memory o ≡ t → new.streams.names ≡ old.streams.names
    by_memory true h = ap (λ (s : HubState). s.streams.names) (step.0 (memory_is o h)).after ∙ names_refused old e
    by_memory false h = names_after old new o e (step.1 (memory_isn't o h))

-- ---- one stream over a run

-- the stream at a place is what its past makes of it
record IsAt (P : Source → Past → Type 0) (k : ℕ) (streams : Streams) (h : Past) : Type 0 where
  source : Source
  there : slice_get streams.sources k ≡ Some source
  is : P source h

-- what holds of a stream by its past, where each piece and each end keeps it
module _ (P : Source → Past → Type 0)
    (feeds : (s : Source) (h : Past) (piece : List ℕ) → P s h → P (fed piece s).0 (more h (taken piece (fed piece s).1) false))
    (ends : (s : Source) (h : Past) → P s h → P (ended_source s).0 (more h [] (is_ok (ended_source s).1)))
    (k : ℕ) where
  stays : (streams : Streams) (h : Past) → IsAt P k streams h → IsAt P k streams (more h [] false)
  stays streams h r = subst (IsAt P k streams) (sym (nothing_more h)) r

  -- the stream at j becomes y
  changed : (streams : Streams) (h : Past) (j : ℕ) (x y : Source) (piece : List ℕ) (over : Bool) → slice_get streams.sources j ≡ Some x
      → (P x h → P y (more h piece over)) → IsAt P k streams h
      → IsAt P k (record streams { sources = slice_set streams.sources j y }) (more h (cond (j == k) piece []) (cond (j == k) over false))
  changed streams h j x y piece over there takes r = by_number (j == k) refl
    where
      set : (t : Bool) → (j == k) ≡ t → slice_get (slice_set streams.sources j y) k ≡ Some (cond t y r.source)
      set t e = set_there k j streams.sources x y r.source there r.there ∙ ap (λ t. Some (cond t y r.source)) e

      by_number : (t : Bool) → (j == k) ≡ t
          → IsAt P k (record streams { sources = slice_set streams.sources j y }) (more h (cond t piece []) (cond t over false))
      by_number true e =
          let same : r.source ≡ x = same_Some r.source x (sym r.there ∙ sym (ap (slice_get streams.sources) (eqb-true j k e)) ∙ there) in
          record { source = y; there = set true e; is = takes (subst (λ (s : Source). P s h) same r.is) }
      by_number false e = record { source = r.source; there = set false e; is = subst (P r.source) (sym (nothing_more h)) r.is }

  feed_at : (streams : Streams) (h : Past) (j : ℕ) (piece : List ℕ) (o : Option Source) → slice_get streams.sources j ≡ o → IsAt P k streams h
      → IsAt P k (at_source (fed piece) j streams o).0 (more h (cond (j == k) (taken piece (at_source (fed piece) j streams o).1) []) false)
  feed_at streams h j piece None there r = subst (λ p. IsAt P k streams (more h p false)) (sym (cond_same (j == k) [])) (stays streams h r)
  feed_at streams h j piece (Some x) there r =
      subst (λ t. IsAt P k (at_source (fed piece) j streams (Some x)).0 (more h (cond (j == k) (taken piece (fed piece x).1) []) t)) (cond_same (j == k) false)
      (changed streams h j x (fed piece x).0 (taken piece (fed piece x).1) false there (feeds x h piece) r)

  end_at : (streams : Streams) (h : Past) (j : ℕ) (o : Option Source) → slice_get streams.sources j ≡ o → IsAt P k streams h
      → IsAt P k (at_source ended_source j streams o).0 (more h [] (cond (j == k) (is_ok (at_source ended_source j streams o).1) false))
  end_at streams h j None there r = subst (λ t. IsAt P k streams (more h [] t)) (sym (cond_same (j == k) false)) (stays streams h r)
  end_at streams h j (Some x) there r =
      subst (λ p. IsAt P k (at_source ended_source j streams (Some x)).0 (more h p (cond (j == k) (is_ok (ended_source x).1) false))) (cond_same (j == k) [])
      (changed streams h j x (ended_source x).0 [] (is_ok (ended_source x).1) there (ends x h) r)

  accepted_by : (names : List (List ℕ)) (name piece : List ℕ) (l : Option ℕ) → name_index names name ≡ l → (o : Outcome)
      → accepted names k (Feed name piece) o ≡ cond (is_at k l) (taken piece o) []
  accepted_by names name piece l h (Ok reply) = ap (λ l. cond (is_at k l) piece []) h
  accepted_by names name piece l h (Err f) = sym (cond_same (is_at k l) [])

  end_by_place : (names : List (List ℕ)) (name : List ℕ) (l : Option ℕ) → name_index names name ≡ l → (o : Outcome)
      → accepts_end names k (End name) o ≡ cond (is_at k l) (is_ok o) false
  end_by_place names name l h (Ok reply) = ap (is_at k) h ∙ cond_true (is_at k l)
  end_by_place names name l h (Err f) = sym (cond_same (is_at k l) false)

  feed_name : (streams : Streams) (h : Past) (name piece : List ℕ) (l : Option ℕ) → name_index streams.names name ≡ l → IsAt P k streams h
      → IsAt P k (at_place (fed piece) streams l).0 (more h (accepted streams.names k (Feed name piece) (at_place (fed piece) streams l).1) false)
  feed_name streams h name piece None there r = stays streams h r
  feed_name streams h name piece (Some j) there r =
      let o = slice_get streams.sources j in
      subst (λ p. IsAt P k (at_source (fed piece) j streams o).0 (more h p false))
      (sym (accepted_by streams.names name piece (Some j) there (at_source (fed piece) j streams o).1)) (feed_at streams h j piece o refl r)

  end_name : (streams : Streams) (h : Past) (name : List ℕ) (l : Option ℕ) → name_index streams.names name ≡ l → IsAt P k streams h
      → IsAt P k (at_place ended_source streams l).0 (more h [] (accepts_end streams.names k (End name) (at_place ended_source streams l).1))
  end_name streams h name None there r = stays streams h r
  end_name streams h name (Some j) there r =
      let o = slice_get streams.sources j in
      subst (λ t. IsAt P k (at_source ended_source j streams o).0 (more h [] t))
      (sym (end_by_place streams.names name (Some j) there (at_source ended_source j streams o).1)) (end_at streams h j o refl r)

  at_step : (old new : HubState) (h : Past) (o : Outcome) (e : Event) → HubStep e old (new, o) → IsAt P k old.streams h
      → IsAt P k new.streams (more h (accepted old.streams.names k e o) (accepts_end old.streams.names k e o))
  at_step old new h o (Feed name piece) step r =
      subst (λ (x : HubState × Outcome). IsAt P k x.0.streams (more h (accepted old.streams.names k (Feed name piece) x.1) false)) (sym step)
      (feed_name old.streams h name piece (name_index old.streams.names name) refl r)
  at_step old new h o (End name) step r =
      subst (λ (x : HubState × Outcome). IsAt P k x.0.streams (more h [] (accepts_end old.streams.names k (End name) x.1))) (sym step)
      (end_name old.streams h name (name_index old.streams.names name) refl r)
  at_step old new h o (Open d) step r = subst (λ (x : HubState × Outcome). IsAt P k x.0.streams (more h [] false)) (sym step) (stays old.streams h r)
  at_step old new h o (Bytes d piece) step r = subst (λ s. IsAt P k s (more h [] false)) (sym step.1) (stays old.streams h r)
  at_step old new h o (Shut d) step r = subst (λ (x : HubState × Outcome). IsAt P k x.0.streams (more h [] false)) (sym step) (stays old.streams h r)

  at_refusal : (old : HubState) (h : Past) (e : Event) → IsAt P k old.streams h
      → IsAt P k (after_memory e old).streams (more h (accepted old.streams.names k e (Err Memory)) (accepts_end old.streams.names k e (Err Memory)))
  at_refusal old h (Feed name piece) r = stays old.streams h r
  at_refusal old h (End name) r = stays old.streams h r
  at_refusal old h (Open d) r = stays old.streams h r
  at_refusal old h (Bytes d piece) r = stays old.streams h r
  at_refusal old h (Shut d) r = stays old.streams h r

  at_event : (old new : HubState) (h : Past) (e : Event) (o : Outcome) → IsStep old e o new → IsAt P k old.streams h
      → IsAt P k new.streams (more h (accepted old.streams.names k e o) (accepts_end old.streams.names k e o))
  at_event old new h e o step r = by_memory (is_memory o) refl
    where
      by_memory : (t : Bool) → is_memory o ≡ t → IsAt P k new.streams (more h (accepted old.streams.names k e o) (accepts_end old.streams.names k e o))
      by_memory true m =
          let is = memory_is o m in
          subst (λ x. IsAt P k new.streams (more h (accepted old.streams.names k e x) (accepts_end old.streams.names k e x))) (sym is)
          (subst (λ (s : HubState). IsAt P k s.streams (more h (accepted old.streams.names k e (Err Memory)) (accepts_end old.streams.names k e (Err Memory)))) (sym (step.0 is).after)
          (at_refusal old h e r))
      by_memory false m = at_step old new h o e (step.1 (memory_isn't o m)) r

  at_run : (s : HubState) (es : List Event) (os : List Outcome) (new : HubState) (h : Past) → IsRun s es os new → IsAt P k s.streams h
      → IsAt P k new.streams (more h (all_accepted s.streams.names k es os) (end_accepted s.streams.names k es os))
  at_run s [] [] new h run r = subst (λ (t : HubState). IsAt P k t.streams (more h [] false)) (sym run) (stays s.streams h r)
  at_run s (e ∷ es) (o ∷ os) new h run r =
      let names = s.streams.names in
      let then = more h (accepted names k e o) (accepts_end names k e o) in
      subst (IsAt P k new.streams) (more_twice h (accepted names k e o) (all_accepted names k es os) (accepts_end names k e o) (end_accepted names k es os))
      (subst (λ (ns : List (List ℕ)). IsAt P k new.streams (more then (all_accepted ns k es os) (end_accepted ns k es os))) (names_stay s run.0 e o run.1)
      (at_run run.0 es os new then run.2 (at_event s run.0 h e o run.1 r)))
  at_run s [] (o ∷ os) new h run r = absurd run
  at_run s (e ∷ es) [] new h run r = absurd run

-- ---- the bytes

-- a stream is what these bytes make of it
record Is (limits : Limits) (s : Source) (h : Past) : Type 0 where
  limits_are : s.stream.limits ≡ limits
  reading : s.stream.reading ≡ reading_of limits h.0

fed_source : (limits : Limits) (s : Source) (h : Past) (piece : List ℕ) (f : Option FileFault) → Is limits s h
    → Is limits (fed_by f piece s).0 (more h (taken piece (fed_by f piece s).1) false)
fed_source limits s h piece (Some file_fault.Ended) is = subst (Is limits s) (sym (nothing_more h)) is
fed_source limits s h piece (Some file_fault.Signature) is = subst (Is limits s) (sym (nothing_more h)) is
fed_source limits s h piece (Some file_fault.Codec) is = subst (Is limits s) (sym (nothing_more h)) is
fed_source limits s h piece (Some file_fault.TooMany) is = subst (Is limits s) (sym (nothing_more h)) is
fed_source limits s h piece (Some file_fault.PacketTooLarge) is = subst (Is limits s) (sym (nothing_more h)) is
fed_source limits s h piece (Some file_fault.Torn) is = subst (Is limits s) (sym (nothing_more h)) is
fed_source limits s h piece None is = record {
  limits_are = is.limits_are;
  reading =
      ap (λ (l : Limits). resume l.packet_bytes s.stream.reading piece) is.limits_are
      ∙ ap (λ (r : Contents). resume limits.packet_bytes r piece) is.reading
      ∙ sym (reads_in_pieces limits.packet_bytes limits.packets h.0 piece);
}

-- a stream after a piece, by whether its end is open
abbrev fed_if : Bool → List ℕ → Source → Source × Outcome
fed_if t piece s = cond t (fed_by (stream_refusal s.stream) piece s) (s, Err Ended)

abbrev ended_if : Bool → Source → Source × Outcome
ended_if t s = cond t (record { stream = stream_after_end s.stream; end = ending_by (finish_answer s.stream.reading) }, Ok no_bytes) (s, Err Ended)

fed_is : (limits : Limits) (s : Source) (h : Past) (piece : List ℕ) → Is limits s h → Is limits (fed piece s).0 (more h (taken piece (fed piece s).1) false)
fed_is limits s h piece is = by_end (is_open_end s.end)
  where
    by_end : (t : Bool) → Is limits (fed_if t piece s).0 (more h (taken piece (fed_if t piece s).1) false)
    by_end true = fed_source limits s h piece (stream_refusal s.stream) is
    by_end false = subst (Is limits s) (sym (nothing_more h)) is

ended_is : (limits : Limits) (s : Source) (h : Past) → Is limits s h → Is limits (ended_source s).0 (more h [] (is_ok (ended_source s).1))
ended_is limits s h is = by_end (is_open_end s.end)
  where
    by_end : (t : Bool) → Is limits (ended_if t s).0 (more h [] (is_ok (ended_if t s).1))
    by_end true = record { limits_are = is.limits_are; reading = is.reading ∙ ap (reading_of limits) (sym (append-nil h.0)) }
    by_end false = subst (Is limits s) (sym (nothing_more h)) is

pub all_fed : (s : HubState) (es : List Event) (os : List Outcome) (new : HubState) → IsRun s es os new → AreAcceptedPieces s es os new
all_fed s es os new run limits k bytes r =
    let first : IsAt (Is limits) k s.streams (bytes, false) = record { source = r.source; there = r.there; is = record { limits_are = r.limits_are; reading = r.reading } } in
    let last = at_run (Is limits) (fed_is limits) (ended_is limits) k s es os new (bytes, false) run first in
    record { source = last.source; there = last.there; limits_are = last.is.limits_are; reading = last.is.reading }

pub all_fed_at_end : (s : HubState) (es : List Event) (os : List Outcome) (new : HubState) (i : ℕ) → length es ≤ i → IsRun s (take i es) os new → AreAcceptedPieces s es os new
all_fed_at_end s es os new i h run = all_fed s es os new (subst (λ xs. IsRun s xs os new) (take_all i es h) run)

-- ---- the end

-- the same, and its end is told, or it isn't
record IsEnded (limits : Limits) (s : Source) (h : Past) : Type 0 where
  read : Is limits s h
  end : s.end ≡ end_by h.1 (reading_of limits h.0)
  ended : s.stream.ended ≡ (h.1 && is_none (reading_of limits h.0).fault)

told_end : (r : Result (Unit {0}) FileFault) → is_open_end (ending_by r) ≡ false
told_end (Ok u) = refl
told_end (Err f) = refl

ended_at : (f : Option FileFault) → ended_by f false ≡ is_none f
ended_at None = refl
ended_at (Some f) = refl

-- a piece comes before the end only
fed_open : (limits : Limits) (s : Source) (bytes piece : List ℕ) (f : Option FileFault) → IsEnded limits s (bytes, false)
    → IsEnded limits (fed_by f piece s).0 (more (bytes, false) (taken piece (fed_by f piece s).1) false)
fed_open limits s bytes piece (Some file_fault.Ended) is = subst (IsEnded limits s) (sym (nothing_more (bytes, false))) is
fed_open limits s bytes piece (Some file_fault.Signature) is = subst (IsEnded limits s) (sym (nothing_more (bytes, false))) is
fed_open limits s bytes piece (Some file_fault.Codec) is = subst (IsEnded limits s) (sym (nothing_more (bytes, false))) is
fed_open limits s bytes piece (Some file_fault.TooMany) is = subst (IsEnded limits s) (sym (nothing_more (bytes, false))) is
fed_open limits s bytes piece (Some file_fault.PacketTooLarge) is = subst (IsEnded limits s) (sym (nothing_more (bytes, false))) is
fed_open limits s bytes piece (Some file_fault.Torn) is = subst (IsEnded limits s) (sym (nothing_more (bytes, false))) is
fed_open limits s bytes piece None is = record { read = fed_source limits s (bytes, false) piece None is.read; end = is.end; ended = is.ended }

ended_fed : (limits : Limits) (s : Source) (h : Past) (piece : List ℕ) → IsEnded limits s h → IsEnded limits (fed piece s).0 (more h (taken piece (fed piece s).1) false)
ended_fed limits s (bytes, true) piece is =
    let t : is_open_end s.end ≡ false = ap is_open_end is.end ∙ told_end (finish_answer (reading_of limits bytes)) in
    subst (λ (t : Bool). IsEnded limits (fed_if t piece s).0 (more (bytes, true) (taken piece (fed_if t piece s).1) false)) (sym t)
    (subst (IsEnded limits s) (sym (nothing_more (bytes, true))) is)
ended_fed limits s (bytes, false) piece is =
    subst (λ (t : Bool). IsEnded limits (fed_if t piece s).0 (more (bytes, false) (taken piece (fed_if t piece s).1) false)) (sym (ap is_open_end is.end))
    (fed_open limits s bytes piece (stream_refusal s.stream) is)

ended_ended : (limits : Limits) (s : Source) (h : Past) → IsEnded limits s h → IsEnded limits (ended_source s).0 (more h [] (is_ok (ended_source s).1))
ended_ended limits s (bytes, true) is =
    let t : is_open_end s.end ≡ false = ap is_open_end is.end ∙ told_end (finish_answer (reading_of limits bytes)) in
    subst (λ (t : Bool). IsEnded limits (ended_if t s).0 (more (bytes, true) [] (is_ok (ended_if t s).1))) (sym t)
    (subst (IsEnded limits s) (sym (nothing_more (bytes, true))) is)
ended_ended limits s (bytes, false) is =
    let now : s.stream.reading ≡ reading_of limits (bytes ++ []) = is.read.reading ∙ ap (reading_of limits) (sym (append-nil bytes)) in
    subst (λ (t : Bool). IsEnded limits (ended_if t s).0 (more (bytes, false) [] (is_ok (ended_if t s).1))) (sym (ap is_open_end is.end))
    (record {
      read = record { limits_are = is.read.limits_are; reading = now };
      end = ap (λ (r : Contents). ending_by (finish_answer r)) now;
      ended = ap (ended_by s.stream.reading.fault) is.ended ∙ ended_at s.stream.reading.fault ∙ ap (λ (r : Contents). is_none r.fault) now;
    })

pub all_ended : (s : HubState) (es : List Event) (os : List Outcome) (new : HubState) → IsRun s es os new → AreAcceptedEnds s es os new
all_ended s es os new run limits k bytes told r =
    let read : Is limits r.read.source (bytes, told) = record { limits_are = r.read.limits_are; reading = r.read.reading } in
    let first : IsAt (IsEnded limits) k s.streams (bytes, told) = record { source = r.read.source; there = r.read.there; is = record { read = read; end = r.end; ended = r.ended } } in
    let last = at_run (IsEnded limits) (ended_fed limits) (ended_ended limits) k s es os new (bytes, told) run first in
    record {
      read = record { source = last.source; there = last.there; limits_are = last.is.read.limits_are; reading = last.is.read.reading };
      end = last.is.end;
      ended = last.is.ended;
    }

pub all_ended_at_end : (s : HubState) (es : List Event) (os : List Outcome) (new : HubState) (i : ℕ) → length es ≤ i → IsRun s (take i es) os new → AreAcceptedEnds s es os new
all_ended_at_end s es os new i h run = all_ended s es os new (subst (λ xs. IsRun s xs os new) (take_all i es h) run)

-- at first there are none
pub none_ended : NewStreamsAreOpen
unfolding read_file next_head
none_ended webp names limits k there = record {
  read = record {
    source = new_source limits;
    there = slice_get-map (λ _. new_source limits) names k ∙ ap (option_map (λ (_ : List ℕ). new_source limits)) (slice_get-get_or names k [] there);
    limits_are = refl;
    reading = refl;
  };
  end = refl;
  ended = refl;
}

pub none_fed : NewStreamsHaveNoBytes
none_fed webp names limits k there = (none_ended webp names limits k there).read
