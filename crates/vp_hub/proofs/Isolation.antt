-- One step, and a run, as one connection sees them.
use Rattle.std.proofs.Common.{◌≡◌, ◌≢◌, ◌==◌, ◌++◌, ◌≤◌, ℕ, List, [], ◌∷◌, Option, Some, None, Ok, Err, cond, refl, ap, sym, ◌∙◌, arith, Bool, true, false, nat_lt, length, option_map, subst, take}
use Rattle.std.proofs.lemmas.List.{take_all}
use Rattle.std.proofs.lemmas.Bool.{eqb-true}
use Rattle.std.proofs.lemmas.Bool.Decides.{nat_tests}
use Rattle.vp_hub.specs.declared.event.Event.{Event}
use Rattle.vp_hub.specs.declared.event.Event.TheVariants.{Feed, End, Open, Bytes, Shut}
use Rattle.std.specs.Prelude.{slice_get}
use Rattle.vp_heads.specs.Routes.{name_index}
use Rattle.vp_hub.specs.declared.source.Source.{Source}
use Rattle.vp_hub.specs.Pages.{Streams}
use Rattle.vp_hub.specs.declared.connection.ConnectionState.{ConnectionState}
use Rattle.vp_hub.specs.declared.connection.Connection.{Connection}
use Rattle.vp_hub.specs.declared.event.HubFault.TheVariants.{UnknownStream, Ended, UnknownConn, AlreadyOpen, TooMany, Failed, Memory}
use Rattle.vp_hub.specs.Hub.{Outcome, HubState, HubStep, IsFine, after_memory, IsStep, connection_state_of, without_connection, opened, Asks, shut, Gets, Serves, new_connection_state, no_bytes, at_source, at_place, fed, ended_source}
use Rattle.vp_hub.specs.View.{Seen, Fed, Over, Opened, Got, Gone, Lost, ConnectionView, connection_view, See, AsksAgain, Leads, closed_by_refusal, AnswersAlike, told, seen_events, view_of, results_of, IsRun, IsIsolated, is_memory, is_too_many}
use Rattle.vp_hub.proofs.ConnectionStateLemmas.{first_of, link_of-push, link_of-with_link, link_of_other-with_link, link_of-without, link_of_other-without}
use Rattle.vp_hub.proofs.Serving.{serves_unique, chosen_unique}

leads-append : (xs ys : List Seen) (a b d : ConnectionView) (os ps : List Outcome) → Leads xs a os b → Leads ys b ps d → Leads (xs ++ ys) a (os ++ ps) d
leads-append [] ys a b d [] ps h k = subst (λ x. Leads ys x ps d) h k
leads-append (e ∷ xs) ys a b d (o ∷ os) ps h k = (h.0, h.1, leads-append xs ys h.0 b d os ps h.2 k)
leads-append [] ys a b d (o ∷ os) ps h k = absurd h
leads-append (e ∷ xs) ys a b d [] ps h k = absurd h

-- what was seen of one event leads from a to b with this result
abbrev pub Follows : List Seen → Outcome → ConnectionView → ConnectionView → Type 0
Follows vs o a b = Leads vs a (told vs o) b

one : (e : Seen) (o : Outcome) (a b : ConnectionView) → See e a (b, o) → Follows (e ∷ []) o a b
one e o a b h = (b, h, refl)

pub memory_is : (o : Outcome) → is_memory o ≡ true → o ≡ Err Memory
memory_is (Ok r) h = cc
memory_is (Err Memory) h = refl
memory_is (Err TooMany) h = cc
memory_is (Err UnknownStream) h = cc
memory_is (Err Ended) h = cc
memory_is (Err UnknownConn) h = cc
memory_is (Err AlreadyOpen) h = cc
memory_is (Err Failed) h = cc

pub memory_isn't : (o : Outcome) → is_memory o ≡ false → o ≢ Err Memory
memory_isn't o h e = memory_differs (sym (ap is_memory e) ∙ h)
  where
    memory_differs : true ≡ false → ⊥
    memory_differs e = cc

sight_is : (s t : Streams) (l m : Option ConnectionState) → s ≡ t → l ≡ m → ◌≡◌ {A = ConnectionView} (record { streams = s; state_of_connection = l }) (record { streams = t; state_of_connection = m })
sight_is s t l m h k = ap (λ x. record { streams = x; state_of_connection = l }) h ∙ ap (λ x. record { streams = t; state_of_connection = x }) k

-- an opening of the connection's own number: what was kept of it says what comes
own_open : (c : ℕ) (ss : Streams) (xs : List Connection) (l : Option ConnectionState) → connection_state_of c xs ≡ l
    → Follows (cond (is_memory (opened c xs l).1) [] (cond (is_too_many (opened c xs l).1) [] (Opened ∷ []))) (opened c xs l).1
    (record { streams = ss; state_of_connection = l }) (record { streams = ss; state_of_connection = connection_state_of c (opened c xs l).0 })
own_open c ss xs (Some state_of_connection) h = one Opened (Err AlreadyOpen) (record { streams = ss; state_of_connection = Some state_of_connection }) (record { streams = ss; state_of_connection = connection_state_of c xs }) (ap (λ l. (record { streams = ss; state_of_connection = l }, Err AlreadyOpen)) h)
own_open c ss xs None h = by_room (nat_lt (length xs) 64)
  where
    r : Bool → List Connection × Outcome
    r t = cond t (xs ++ record { number = c; state_of_connection = new_connection_state } ∷ [], Ok no_bytes) (xs, Err TooMany)

    by_room : (t : Bool) → Follows (cond (is_memory (r t).1) [] (cond (is_too_many (r t).1) [] (Opened ∷ []))) (r t).1
        (record { streams = ss; state_of_connection = None }) (record { streams = ss; state_of_connection = connection_state_of c (r t).0 })
    by_room true = one Opened (Ok no_bytes) (record { streams = ss; state_of_connection = None }) (record { streams = ss; state_of_connection = connection_state_of c (xs ++ record { number = c; state_of_connection = new_connection_state } ∷ []) }) (ap (λ l. (record { streams = ss; state_of_connection = l }, Ok no_bytes)) (link_of-push c c new_connection_state xs ∙ ap (λ a. first_of a (cond (c == c) (Some new_connection_state) None)) h ∙ grind (arith, nat_tests)))
    by_room false = ap (λ l. record { streams = ss; state_of_connection = l }) h

first_none : (a : Option ConnectionState) → first_of a None ≡ a
first_none None = refl
first_none (Some a) = refl

other_open : (c d : ℕ) (xs : List Connection) (l : Option ConnectionState) → (d == c) ≡ false → connection_state_of c (opened d xs l).0 ≡ connection_state_of c xs
other_open c d xs (Some state_of_connection) h = refl
other_open c d xs None h = by_room (nat_lt (length xs) 64)
  where
    by_room : (t : Bool) → connection_state_of c (cond {A = List Connection × Outcome} t (xs ++ record { number = d; state_of_connection = new_connection_state } ∷ [], Ok no_bytes) (xs, Err TooMany)).0 ≡ connection_state_of c xs
    by_room true = link_of-push c d new_connection_state xs ∙ ap (λ t. first_of (connection_state_of c xs) (cond t (Some new_connection_state) None)) h ∙ first_none (connection_state_of c xs)
    by_room false = refl

own_ask : (c : ℕ) (ss : Streams) (piece : List ℕ) (xs ys : List Connection) (o : Outcome) (l : Option ConnectionState) → connection_state_of c xs ≡ l → Asks ss c piece xs l (ys, o)
    → AsksAgain ss piece l (connection_state_of c ys, o)
own_ask c ss piece xs ys o None e h = ap (λ (x : List Connection × Outcome). (connection_state_of c x.0, x.1)) h ∙ ap (λ l. (l, Err UnknownConn)) e
own_ask c ss piece xs ys o (Some state_of_connection) e h = (
  h.0,
  h.1,
  ap (λ (x : List Connection × Outcome). (connection_state_of c x.0, x.1)) h.2
      ∙ ap (λ l. (l, h.0.1)) (link_of-with_link c h.0.0 xs ∙ ap (option_map (λ _. h.0.0)) e),
)

other_ask : (c d : ℕ) (ss : Streams) (piece : List ℕ) (xs ys : List Connection) (o : Outcome) (l : Option ConnectionState) → (d == c) ≡ false → Asks ss d piece xs l (ys, o)
    → connection_state_of c ys ≡ connection_state_of c xs
other_ask c d ss piece xs ys o None e h = ap (λ (x : List Connection × Outcome). connection_state_of c x.0) h
other_ask c d ss piece xs ys o (Some state_of_connection) e h = ap (λ (x : List Connection × Outcome). connection_state_of c x.0) h.2 ∙ link_of_other-with_link c d h.0.0 xs e

own_shut : (c : ℕ) (ss : Streams) (xs : List Connection) (l : Option ConnectionState) → connection_state_of c xs ≡ l
    → Follows (Gone ∷ []) (shut c xs l).1 (record { streams = ss; state_of_connection = l }) (record { streams = ss; state_of_connection = connection_state_of c (shut c xs l).0 })
own_shut c ss xs None h = one Gone (Err UnknownConn) (record { streams = ss; state_of_connection = None }) (record { streams = ss; state_of_connection = connection_state_of c xs }) (ap (λ l. (record { streams = ss; state_of_connection = l }, Err UnknownConn)) h)
own_shut c ss xs (Some state_of_connection) h = one Gone (Ok no_bytes) (record { streams = ss; state_of_connection = Some state_of_connection }) (record { streams = ss; state_of_connection = connection_state_of c (without_connection c xs) }) (ap (λ l. (record { streams = ss; state_of_connection = l }, Ok no_bytes)) (link_of-without c xs))

other_shut : (c d : ℕ) (xs : List Connection) (l : Option ConnectionState) → (d == c) ≡ false → connection_state_of c (shut d xs l).0 ≡ connection_state_of c xs
other_shut c d xs None h = refl
other_shut c d xs (Some state_of_connection) h = link_of_other-without c d xs h

lose_is : (l : Option ConnectionState) → option_map (λ _. record { pending = []; closed = true }) l ≡ closed_by_refusal l
lose_is None = refl
lose_is (Some state_of_connection) = refl

choose : (t : Bool) (xs ys : List Seen) (o : Outcome) (a b : ConnectionView) → (t ≡ true → Follows xs o a b) → (t ≡ false → Follows ys o a b) → Follows (cond t xs ys) o a b
choose true xs ys o a b f g = f refl
choose false xs ys o a b f g = g refl

pick : (t : Bool) (xs ys : List Seen) (o : Outcome) (a b : ConnectionView) → t ≡ false → Follows ys o a b → Follows (cond t xs ys) o a b
pick true xs ys o a b h f = cc
pick false xs ys o a b h f = f

own : (xs : List Seen) (o : Outcome) (old new : HubState) (d c : ℕ) → d ≡ c → Follows xs o (connection_view d old) (connection_view d new) → Follows xs o (connection_view c old) (connection_view c new)
own xs o old new d c h f = subst (λ k. Follows xs o (connection_view k old) (connection_view k new)) h f

-- where memory isn't refused
at_step : (c : ℕ) (old new : HubState) (o : Outcome) (e : Event) → is_memory o ≡ false → HubStep e old (new, o) → Follows (seen_events c e o) o (connection_view c old) (connection_view c new)
at_step c old new o (Feed name piece) hm h = pick (is_memory o) [] (Fed name piece ∷ []) o (connection_view c old) (connection_view c new) hm (one (Fed name piece) o (connection_view c old) (connection_view c new) (ap (λ (x : HubState × Outcome). (connection_view c x.0, x.1)) h))
at_step c old new o (End name) hm h = one (Over name) o (connection_view c old) (connection_view c new) (ap (λ (x : HubState × Outcome). (connection_view c x.0, x.1)) h)
at_step c old new o (Open d) hm h =
    subst (λ (x : HubState × Outcome). Follows (seen_events c (Open d) x.1) x.1 (connection_view c old) (connection_view c x.0)) (sym h)
    (let r = opened d old.connections (connection_state_of d old.connections) in
    let mid : HubState = record { streams = old.streams; connections = r.0 } in
    choose (d == c) (cond (is_memory r.1) [] (cond (is_too_many r.1) [] (Opened ∷ []))) [] r.1 (connection_view c old) (connection_view c mid)
    (λ e. own (cond (is_memory r.1) [] (cond (is_too_many r.1) [] (Opened ∷ []))) r.1 old mid d c (eqb-true d c e) (own_open d old.streams old.connections (connection_state_of d old.connections) refl))
    (λ e. sight_is old.streams old.streams (connection_state_of c r.0) (connection_state_of c old.connections) refl (other_open c d old.connections (connection_state_of d old.connections) e)))
at_step c old new o (Bytes d piece) hm h =
    choose (d == c) (cond (is_memory o) (Lost ∷ []) (Got piece ∷ [])) [] o (connection_view c old) (connection_view c new)
    (λ e. pick (is_memory o) (Lost ∷ []) (Got piece ∷ []) o (connection_view c old) (connection_view c new) hm
    (own (Got piece ∷ []) o old new d c (eqb-true d c e) (one (Got piece) o (connection_view d old) (connection_view d new) (own_ask d old.streams piece old.connections new.connections o (connection_state_of d old.connections) refl h.0, h.1))))
    (λ e. sight_is new.streams old.streams (connection_state_of c new.connections) (connection_state_of c old.connections) h.1 (other_ask c d old.streams piece old.connections new.connections o (connection_state_of d old.connections) e h.0))
at_step c old new o (Shut d) hm h =
    subst (λ (x : HubState × Outcome). Follows (seen_events c (Shut d) x.1) x.1 (connection_view c old) (connection_view c x.0)) (sym h)
    (let r = shut d old.connections (connection_state_of d old.connections) in
    let mid : HubState = record { streams = old.streams; connections = r.0 } in
    choose (d == c) (Gone ∷ []) [] r.1 (connection_view c old) (connection_view c mid)
    (λ e. own (Gone ∷ []) r.1 old mid d c (eqb-true d c e) (own_shut d old.streams old.connections (connection_state_of d old.connections) refl))
    (λ e. sight_is old.streams old.streams (connection_state_of c r.0) (connection_state_of c old.connections) refl (other_shut c d old.connections (connection_state_of d old.connections) e)))

-- where it is
at_refusal : (c : ℕ) (old : HubState) (e : Event) → IsFine e old → Follows (seen_events c e (Err Memory)) (Err Memory) (connection_view c old) (connection_view c (after_memory e old))
at_refusal c old (Feed name piece) h = refl
at_refusal c old (End name) h = absurd h
at_refusal c old (Open d) h = choose (d == c) [] [] (Err Memory) (connection_view c old) (connection_view c old) (λ _. refl) (λ _. refl)
at_refusal c old (Bytes d piece) h =
    let lost : ConnectionState = record { pending = []; closed = true } in
    let mid = after_memory (Bytes d piece) old in
    choose (d == c) (Lost ∷ []) [] (Err Memory) (connection_view c old) (connection_view c mid)
    (λ e. own (Lost ∷ []) (Err Memory) old mid d c (eqb-true d c e)
    (one Lost (Err Memory) (connection_view d old) (connection_view d mid) (ap (λ l. (record { streams = old.streams; state_of_connection = l }, Err Memory)) (link_of-with_link d lost old.connections ∙ lose_is (connection_state_of d old.connections)))))
    (λ e. sight_is old.streams old.streams (connection_state_of c mid.connections) (connection_state_of c old.connections) refl (link_of_other-with_link c d lost old.connections e))
at_refusal c old (Shut d) h = absurd h

-- one step, as connection c sees it
pub follows : (c : ℕ) (old new : HubState) (e : Event) (o : Outcome) → IsStep old e o new → Follows (seen_events c e o) o (connection_view c old) (connection_view c new)
follows c old new e o step = by_memory (is_memory o) refl
  where
    by_memory : (t : Bool) → is_memory o ≡ t → Follows (seen_events c e o) o (connection_view c old) (connection_view c new)
    by_memory true h =
        let is = memory_is o h in
        let r = step.0 is in
        subst (λ x. Follows (seen_events c e x) x (connection_view c old) (connection_view c new)) (sym is)
        (subst (λ x. Follows (seen_events c e (Err Memory)) (Err Memory) (connection_view c old) (connection_view c x)) (sym r.after) (at_refusal c old e r.fine))
    by_memory false h = at_step c old new o e h (step.1 (memory_isn't o h))

pub isolated : (s : HubState) (es : List Event) (os : List Outcome) (new : HubState) → IsRun s es os new → IsIsolated s es os new
isolated s [] [] new run c = ap (connection_view c) run
isolated s (e ∷ es) (o ∷ os) new run c =
    leads-append (seen_events c e o) (view_of c es os) (connection_view c s) (connection_view c run.0) (connection_view c new) (told (seen_events c e o) o) (results_of c es os)
    (follows c s run.0 e o run.1) (isolated run.0 es os new run.2 c)
isolated s [] (o ∷ os) new run c = absurd run
isolated s (e ∷ es) [] new run c = absurd run

-- a run goes on by one step
pub run_more : (s : HubState) (es : List Event) (os : List Outcome) (mid : HubState) (e : Event) (o : Outcome) (new : HubState)
    → IsRun s es os mid → IsStep mid e o new → IsRun s (es ++ e ∷ []) (os ++ o ∷ []) new
run_more s [] [] mid e o new run step = (new, subst (λ x. IsStep x e o new) run step, refl)
run_more s (d ∷ es) (p ∷ os) mid e o new run step = (run.0, run.1, run_more run.0 es os mid e o new run.2 step)
run_more s [] (p ∷ os) mid e o new run step = absurd run
run_more s (d ∷ es) [] mid e o new run step = absurd run

-- one run behind another is a run
pub runs_joined : (s : HubState) (es : List Event) (os : List Outcome) (mid : HubState) (fs : List Event) (ps : List Outcome) (new : HubState)
    → IsRun s es os mid → IsRun mid fs ps new → IsRun s (es ++ fs) (os ++ ps) new
runs_joined s [] [] mid fs ps new run more = subst (λ x. IsRun x fs ps new) run more
runs_joined s (d ∷ es) (p ∷ os) mid fs ps new run more = (run.0, run.1, runs_joined run.0 es os mid fs ps new run.2 more)
runs_joined s [] (p ∷ os) mid fs ps new run more = absurd run
runs_joined s (d ∷ es) [] mid fs ps new run more = absurd run

pub joined_at_end : (s : HubState) (es : List Event) (os : List Outcome) (mid : HubState) (fs : List Event) (ps : List Outcome) (new : HubState) (i : ℕ)
    → length fs ≤ i → IsRun s es os mid → IsRun mid (take i fs) ps new → IsRun s (es ++ fs) (os ++ ps) new
joined_at_end s es os mid fs ps new i h run more = runs_joined s es os mid fs ps new run (subst (λ xs. IsRun mid xs ps new) (take_all i fs h) more)

pub isolated_at_end : (s : HubState) (es : List Event) (os : List Outcome) (new : HubState) (i : ℕ) → length es ≤ i → IsRun s (take i es) os new → IsIsolated s es os new
isolated_at_end s es os new i h run = isolated s es os new (subst (λ xs. IsRun s xs os new) (take_all i es h) run)

-- a view has one list of results
gets_unique : (ss : Streams) (piece : List ℕ) (state_of_connection : ConnectionState) (x y : ConnectionState × Outcome) → ss.webp ≡ false → Gets ss piece state_of_connection x → Gets ss piece state_of_connection y → x ≡ y
gets_unique ss piece state_of_connection x y off = chosen_unique state_of_connection.closed (λ r. r ≡ (state_of_connection, Err Failed))
    (λ r. (w : ConnectionState × List ℕ) × Serves ss piece (state_of_connection, []) w × (r ≡ (w.0, Ok (record { bytes = w.1; close = w.0.closed })))) x y
    (λ x y a b. a ∙ sym b)
    (λ x y a b. a.2 ∙ ap (λ (w : ConnectionState × List ℕ). (w.0, Ok (record { bytes = w.1; close = w.0.closed }))) (serves_unique ss piece (state_of_connection, []) a.0 b.0 off a.1 b.1) ∙ sym b.2)

asks_unique : (ss : Streams) (piece : List ℕ) (l : Option ConnectionState) (x y : Option ConnectionState × Outcome) → ss.webp ≡ false → AsksAgain ss piece l x → AsksAgain ss piece l y → x ≡ y
asks_unique ss piece None x y off a b = a ∙ sym b
asks_unique ss piece (Some state_of_connection) x y off a b = a.2 ∙ ap (λ (g : ConnectionState × Outcome). (Some g.0, g.1)) (gets_unique ss piece state_of_connection a.0 b.0 off a.1 b.1) ∙ sym b.2

see_unique : (e : Seen) (v : ConnectionView) (x y : ConnectionView × Outcome) → v.streams.webp ≡ false → See e v x → See e v y → x ≡ y
see_unique (Fed name piece) v x y off a b = a ∙ sym b
see_unique (Over name) v x y off a b = a ∙ sym b
see_unique Opened v x y off a b = a ∙ sym b
see_unique (Got piece) v x y off a b =
    ap (λ s. (record { streams = s; state_of_connection = x.0.state_of_connection }, x.1)) (a.1 ∙ sym b.1)
    ∙ ap (λ (p : Option ConnectionState × Outcome). (record { streams = y.0.streams; state_of_connection = p.0 }, p.1)) (asks_unique v.streams piece v.state_of_connection (x.0.state_of_connection, x.1) (y.0.state_of_connection, y.1) off a.0 b.0)
see_unique Gone v x y off a b = a ∙ sym b
see_unique Lost v x y off a b = a ∙ sym b

-- whether the streams are shown as WebP files stays
at_source_stays : (f : Source → Source × Outcome) (k : ℕ) (ss : Streams) (o : Option Source) → (at_source f k ss o).0.webp ≡ ss.webp
at_source_stays f k ss None = refl
at_source_stays f k ss (Some source) = refl

at_place_stays : (f : Source → Source × Outcome) (ss : Streams) (o : Option ℕ) → (at_place f ss o).0.webp ≡ ss.webp
at_place_stays f ss None = refl
at_place_stays f ss (Some k) = at_source_stays f k ss (slice_get ss.sources k)

see_stays : (e : Seen) (v : ConnectionView) (r : ConnectionView × Outcome) → See e v r → r.0.streams.webp ≡ v.streams.webp
see_stays (Fed name piece) v r h = ap (λ (x : ConnectionView × Outcome). x.0.streams.webp) h ∙ at_place_stays (fed piece) v.streams (name_index v.streams.names name)
see_stays (Over name) v r h = ap (λ (x : ConnectionView × Outcome). x.0.streams.webp) h ∙ at_place_stays ended_source v.streams (name_index v.streams.names name)
see_stays Opened v r h = ap (λ (x : ConnectionView × Outcome). x.0.streams.webp) h
see_stays (Got piece) v r h = ap (λ (ss : Streams). ss.webp) h.1
see_stays Gone v r h = ap (λ (x : ConnectionView × Outcome). x.0.streams.webp) h
see_stays Lost v r h = ap (λ (x : ConnectionView × Outcome). x.0.streams.webp) h

leads_unique : (vs : List Seen) (a b d : ConnectionView) (os ps : List Outcome) → a.streams.webp ≡ false → Leads vs a os b → Leads vs a ps d → os ≡ ps
leads_unique [] a b d [] [] off h k = refl
leads_unique (e ∷ vs) a b d (o ∷ os) (p ∷ ps) off h k =
    let same = see_unique e a (h.0, o) (k.0, p) off h.1 k.1 in
    let still_off : h.0.streams.webp ≡ false = see_stays e a (h.0, o) h.1 ∙ off in
    ap (λ (x : ConnectionView × Outcome). x.1 ∷ os) same
    ∙ ap (λ xs. p ∷ xs) (leads_unique vs h.0 b d os ps still_off h.2 (subst (λ m. Leads vs m ps d) (sym (ap (λ (x : ConnectionView × Outcome). x.0) same)) k.2))
leads_unique [] a b d (o ∷ os) ps off h k = absurd h
leads_unique [] a b d [] (p ∷ ps) off h k = absurd k
leads_unique (e ∷ vs) a b d [] ps off h k = absurd h
leads_unique (e ∷ vs) a b d (o ∷ os) [] off h k = absurd k

pub alike : AnswersAlike
alike c s t es fs os ps new mid off run ran first same =
    leads_unique (view_of c es os) (connection_view c s) (connection_view c new) (connection_view c mid) (results_of c es os) (results_of c fs ps) off
    (isolated s es os new run c)
    (subst (λ vs. Leads vs (connection_view c s) (results_of c fs ps) (connection_view c mid)) (sym same)
    (subst (λ v. Leads (view_of c fs ps) v (results_of c fs ps) (connection_view c mid)) (sym first) (isolated t fs ps mid ran c)))
