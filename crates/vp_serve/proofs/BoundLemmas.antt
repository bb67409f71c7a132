-- How much is kept of each connection, and how many are open.
use Rattle.std.proofs.Common.{suc, ◌≡◌, ◌==◌, ◌≤◌, ◌<◌, ◌++◌, ◌∷◌, ◌∙◌, ◌||◌, [], ℕ, List, Bool, true, false, not, nat_lt, Option, Some, None, Ok, Err, cond, refl, ap, sym, subst, length, append_assoc, option_map, arith, inl, length-append}
use Rattle.std.proofs.lemmas.Bool.{eqb-true}
use Rattle.std.proofs.lemmas.Bool.Decides.{nat_tests}
use Rattle.vp_hub.specs.declared.event.Event.TheVariants.{Bytes}
use Rattle.vp_hub.specs.declared.event.Reply.{Reply}
use Rattle.vp_hub.specs.declared.event.HubFault.{HubFault}
use Rattle.vp_hub.specs.declared.event.HubFault.TheVariants.{UnknownConn, Failed}
use Rattle.vp_hub.specs.declared.connection.ConnectionState.{ConnectionState}
use Rattle.vp_hub.specs.declared.connection.Connection.{Connection as HubConnection}
use Rattle.vp_hub.specs.Hub.{Outcome, HubState, IsStep, Asks, Serves, Chosen, connection_state_of}
use Rattle.vp_serve.specs.declared.options.ServeOptions.{ServeOptions}
use Rattle.vp_serve.specs.Connection.{Connection}
use Rattle.vp_serve.specs.Connections.{connection_of, with_connection, without, new_connection, after_outcome}
use Rattle.vp_hub.specs.Lines.{IsLine}
use Rattle.vp_serve.specs.Replies.{AddsOneReply, RepliesAreCurrent}
use Rattle.vp_serve.specs.ServerLoop.{LoopState, initial, is_full, Action, Accepted, Rejected, Received, Submitted, Sent, Closed, Grown, Fed, Ended, Waited, IsTransition, IsTrace}
use Rattle.vp_serve.specs.Bounds.{IsConnectionBounded, ConnectionsAreBounded}
use Rattle.vp_serve.proofs.Changes.{first_of, connection_of-push, connection_of-with_connection, connection_of_other-with_connection, connection_of-without, connection_of_other-without}
use Rattle.vp_serve.proofs.OneConnection.{number_of, none_some, same_some, no_some, true_false}
use Rattle.vp_serve.proofs.LineReplies.{one_reply}
use Rattle.vp_serve.proofs.Served.{given}

-- ---- what the hub replies to a line

ok_same : (a b : Reply) → ◌≡◌ {A = Outcome} (Ok a) (Ok b) → a ≡ b
ok_same a b e = cc

replies_once : (s t : HubState) (c : ℕ) (line : List ℕ) (r : Reply) → IsLine line → IsStep s (Bytes c line) (Ok r) t → AddsOneReply s.streams [] r.bytes
replies_once s t c line r is_line step = at (connection_state_of c s.connections) (step.1 (λ e. cc)).0
  where
    never : (f : HubFault) → ◌≡◌ {A = Outcome} (Ok r) (Err f) → ⊥
    never f e = cc

    by_closed : (b : Bool) (link : ConnectionState) (g : ConnectionState × Outcome) → g.1 ≡ Ok r
        → Chosen b (g ≡ (link, Err Failed)) ((w : ConnectionState × List ℕ) × Serves s.streams line (link, []) w × (g ≡ (w.0, Ok (record { bytes = w.1; close = w.0.closed }))))
        → AddsOneReply s.streams [] r.bytes
    by_closed true link g is h = absurd (never Failed (sym is ∙ ap (λ (x : ConnectionState × Outcome). x.1) h))
    by_closed false link g is (w, serves, e) =
        let same : record { bytes = w.1; close = w.0.closed } ≡ r = ok_same (record { bytes = w.1; close = w.0.closed }) r (sym (ap (λ (x : ConnectionState × Outcome). x.1) e) ∙ is) in
        subst (λ (x : Reply). AddsOneReply s.streams [] x.bytes) same (one_reply s.streams line (link, []) w is_line serves)

    at : (l : Option ConnectionState) → Asks s.streams c line s.connections l (t.connections, Ok r) → AddsOneReply s.streams [] r.bytes
    at None h = absurd (never UnknownConn (ap (λ (x : List HubConnection × Outcome). x.1) h))
    at (Some link) (g, gets, is) = by_closed link.closed link g (sym (ap (λ (x : List HubConnection × Outcome). x.1) is)) gets

-- ---- all connections

abbrev pub AllAreSmall : List Connection → Type 0
AllAreSmall xs = (c : ℕ) (t : Connection) → connection_of c xs ≡ Some t → IsConnectionBounded t

by_own : (c k : ℕ) (A : Type 0) → ((k == c) ≡ true → A) → ((k == c) ≡ false → A) → A
by_own c k A f g = at (k == c) f g
  where
    at : (b : Bool) → (b ≡ true → A) → (b ≡ false → A) → A
    at true f g = f refl
    at false f g = g refl

map_some : (o : Option Connection) (u t : Connection) → option_map (λ _. u) o ≡ Some t → u ≡ t
map_some None u t h = absurd (none_some t h)
map_some (Some a) u t h = same_some u t h

changed : (k : ℕ) (u : Connection) (xs : List Connection) → (u.number == k) ≡ true → AllAreSmall xs → IsConnectionBounded u → AllAreSmall (with_connection k u xs)
changed k u xs n all small c t h = by_own c k (IsConnectionBounded t)
    (λ o. subst IsConnectionBounded (map_some (connection_of k xs) u t (sym (connection_of-with_connection k u xs n) ∙ ap (λ j. connection_of j (with_connection k u xs)) (eqb-true k c o) ∙ h)) small)
    (λ o. all c t (sym (connection_of_other-with_connection c k u xs n o) ∙ h))

pushed : (u : Connection) (xs : List Connection) → AllAreSmall xs → IsConnectionBounded u → AllAreSmall (xs ++ u ∷ [])
pushed u xs all small c t h = at (connection_of c xs) refl (u.number == c) (sym (connection_of-push c u xs) ∙ h)
  where
    at : (o : Option Connection) → connection_of c xs ≡ o → (b : Bool) → first_of o (cond b (Some u) None) ≡ Some t → IsConnectionBounded t
    at (Some a) e b k = all c t (e ∙ k)
    at None e true k = subst IsConnectionBounded (same_some u t k) small
    at None e false k = absurd (none_some t k)

gone : (k : ℕ) (xs : List Connection) → AllAreSmall xs → AllAreSmall (without k xs)
gone k xs all c t h = by_own c k (IsConnectionBounded t)
    (λ o. absurd (no_some (connection_of k (without k xs)) t (connection_of-without k xs) (ap (λ j. connection_of j (without k xs)) (eqb-true k c o) ∙ h)))
    (λ o. all c t (sym (connection_of_other-without c k xs o) ∙ h))

-- ---- one action

after_line : (d e : LoopState) (c now : ℕ) (line rest : List ℕ) (o : Outcome) (t : Connection) → IsLine line → IsStep d.hub (Bytes c line) o e.hub → IsConnectionBounded t → t.unsubmitted ≡ line ++ rest
    → IsConnectionBounded (after_outcome o rest now t)
after_line d e c now line rest (Ok r) t is_line step small unsubmitted = record {
  unsubmitted = omega (arith, small.unsubmitted, ap length unsubmitted, length-append line rest);
  streams = d.hub.streams;
  written = [];
  unsent = replies_once d.hub e.hub c line r is_line step;
}
after_line d e c now line rest (Err f) t is_line step small unsubmitted = record {
  unsubmitted = omega (arith, small.unsubmitted, ap length unsubmitted, length-append line rest);
  streams = d.hub.streams;
  written = [];
  unsent = inl refl;
}

after_number : (o : Outcome) (rest : List ℕ) (now : ℕ) (t : Connection) → (after_outcome o rest now t).number ≡ t.number
after_number (Ok r) rest now t = refl
after_number (Err f) rest now t = refl

pub current : RepliesAreCurrent
current old new c now line r (t, rest, there, next, unsubmitted, is_line, step, is) = replies_once old.hub new.hub c line r is_line.0 step

one : (d e : LoopState) (x : Action) → IsTransition d x e → AllAreSmall d.connections → AllAreSmall e.connections
one d e (Accepted c now) h all =
    subst AllAreSmall (sym (ap (λ (s : LoopState). s.connections) h.3))
    (pushed (new_connection c now) d.connections all (record { unsubmitted = omega arith; streams = d.hub.streams; written = []; unsent = inl refl }))
one d e (Rejected c fault) h all = subst AllAreSmall (sym (ap (λ (s : LoopState). s.connections) h.3)) all
one d e (Received c bytes) (t, there, next, few, is) all =
    let small = all c t there in
    subst AllAreSmall (sym (ap (λ (s : LoopState). s.connections) is)) (changed c (record t { unsubmitted = bytes }) d.connections (number_of c t d.connections there) all
    (record { unsubmitted = few; streams = small.streams; written = small.written; unsent = small.unsent }))
one d e (Submitted c now line o) (t, rest, there, next, unsubmitted, is_line, step, is) all =
    subst AllAreSmall (sym (ap (λ (s : LoopState). s.connections) is))
    (changed c (after_outcome o rest now t) d.connections (ap (λ (m : ℕ). m == c) (after_number o rest now t) ∙ number_of c t d.connections there) all
    (after_line d e c now line rest o t is_line.0 step (all c t there) unsubmitted))
one d e (Sent c now bytes) (t, rest, there, next, unsent, is) all =
    let small = all c t there in
    subst AllAreSmall (sym (ap (λ (s : LoopState). s.connections) is)) (changed c (record t { unsent = rest; last_active = now }) d.connections (number_of c t d.connections there) all
    (record {
      unsubmitted = small.unsubmitted;
      streams = small.streams;
      written = small.written ++ bytes;
      unsent = subst (λ (l : List ℕ). AddsOneReply small.streams [] l) (ap (λ (l : List ℕ). small.written ++ l) unsent ∙ sym (append_assoc small.written bytes rest)) small.unsent;
    }))
one d e (Closed c now reason o) (t, there, is_reason, step, is) all = subst AllAreSmall (sym (ap (λ (s : LoopState). s.connections) is)) (gone c d.connections all)
one d e (Grown piece) h all = subst AllAreSmall (sym (ap (λ (s : LoopState). s.connections) h.1)) all
one d e (Fed piece o) h all = subst AllAreSmall (sym (ap (λ (s : LoopState). s.connections) h.2)) all
one d e (Ended name o) h all = subst AllAreSmall (sym (ap (λ (s : LoopState). s.connections) h.2)) all
one d e (Waited busy clock) h all = subst AllAreSmall (sym (ap (λ (s : LoopState). s.connections) h.1)) all

-- ---- how many are open

with_length : (c : ℕ) (u : Connection) (xs : List Connection) → length (with_connection c u xs) ≡ length xs
with_length c u [] = refl
with_length c u (x ∷ xs) = at (with_length c u xs) (x.number == c)
  where
    at : length (with_connection c u xs) ≡ length xs → (b : Bool) → length (cond b (u ∷ xs) (x ∷ with_connection c u xs)) ≡ suc (length xs)
    at e true = refl
    at e false = ap suc e

without_length : (c : ℕ) (xs : List Connection) → length (without c xs) ≤ length xs
without_length c [] = omega arith
without_length c (x ∷ xs) = at (not (x.number == c)) (without_length c xs)
  where
    at : (b : Bool) → length (without c xs) ≤ length xs → length (cond b (x ∷ without c xs) (without c xs)) ≤ suc (length xs)
    at true h = omega (arith, h)
    at false h = omega (arith, h)

-- no more than the options allow
abbrev pub OuterWeightsAreZero : LoopState → Type 0
OuterWeightsAreZero d = length d.connections ≤ d.options.max_connections

room : (d : LoopState) → is_full d ≡ false → length d.connections < d.options.max_connections
room d h = at (nat_lt (length d.connections) d.options.max_connections) refl h
  where
    at : (b : Bool) → nat_lt (length d.connections) d.options.max_connections ≡ b → not b || not (nat_lt d.next d.options.total_connections) ≡ false → length d.connections < d.options.max_connections
    at true e k = grind (arith, nat_tests, e)
    at false e k = absurd (true_false k)

same_options : (d e : LoopState) (x : Action) → IsTransition d x e → e.options ≡ d.options
same_options d e (Accepted c now) h = ap (λ (s : LoopState). s.options) h.3
same_options d e (Rejected c fault) h = ap (λ (s : LoopState). s.options) h.3
same_options d e (Received c bytes) h = ap (λ (s : LoopState). s.options) h.4
same_options d e (Submitted c now line o) h = ap (λ (s : LoopState). s.options) h.7
same_options d e (Sent c now bytes) h = ap (λ (s : LoopState). s.options) h.5
same_options d e (Closed c now reason o) h = ap (λ (s : LoopState). s.options) h.4
same_options d e (Grown piece) h = ap (λ (s : LoopState). s.options) h.1
same_options d e (Fed piece o) h = ap (λ (s : LoopState). s.options) h.2
same_options d e (Ended name o) h = ap (λ (s : LoopState). s.options) h.2
same_options d e (Waited busy clock) h = ap (λ (s : LoopState). s.options) h.1

still_few : (d e : LoopState) → e.options ≡ d.options → length e.connections ≤ length d.connections → OuterWeightsAreZero d → OuterWeightsAreZero e
still_few d e o l few = omega (arith, ap (λ (x : ServeOptions). x.max_connections) o, l, few)

few : (d e : LoopState) (x : Action) → IsTransition d x e → OuterWeightsAreZero d → OuterWeightsAreZero e
few d e (Accepted c now) h k =
    omega (arith, room d h.1, ap (λ (s : LoopState). s.options.max_connections) h.3, ap (λ (s : LoopState). length s.connections) h.3, length-append d.connections (new_connection c now ∷ []))
few d e (Rejected c fault) h k = still_few d e (same_options d e (Rejected c fault) h) (omega (arith, ap (λ (s : LoopState). length s.connections) h.3)) k
few d e (Received c bytes) h k =
    still_few d e (same_options d e (Received c bytes) h) (omega (arith, ap (λ (s : LoopState). length s.connections) h.4, with_length c (record h.0 { unsubmitted = bytes }) d.connections)) k
few d e (Submitted c now line o) h k =
    still_few d e (same_options d e (Submitted c now line o) h) (omega (arith, ap (λ (s : LoopState). length s.connections) h.7, with_length c (after_outcome o h.1 now h.0) d.connections)) k
few d e (Sent c now bytes) h k =
    still_few d e (same_options d e (Sent c now bytes) h) (omega (arith, ap (λ (s : LoopState). length s.connections) h.5, with_length c (record h.0 { unsent = h.1; last_active = now }) d.connections)) k
few d e (Closed c now reason o) h k =
    still_few d e (same_options d e (Closed c now reason o) h) (omega (arith, ap (λ (s : LoopState). length s.connections) h.4, without_length c d.connections)) k
few d e (Grown piece) h k = still_few d e (same_options d e (Grown piece) h) (omega (arith, ap (λ (s : LoopState). length s.connections) h.1)) k
few d e (Fed piece o) h k = still_few d e (same_options d e (Fed piece o) h) (omega (arith, ap (λ (s : LoopState). length s.connections) h.2)) k
few d e (Ended name o) h k = still_few d e (same_options d e (Ended name o) h) (omega (arith, ap (λ (s : LoopState). length s.connections) h.2)) k
few d e (Waited busy clock) h k = still_few d e (same_options d e (Waited busy clock) h) (omega (arith, ap (λ (s : LoopState). length s.connections) h.1)) k

-- ---- along a trace

all_options : (d e : LoopState) (xs : List Action) → IsTrace d xs e → e.options ≡ d.options
all_options d e [] h = ap (λ (s : LoopState). s.options) h
all_options d e (x ∷ xs) h = all_options h.0 e xs h.2 ∙ same_options d h.0 x h.1

all_few : (d e : LoopState) (xs : List Action) → OuterWeightsAreZero d → IsTrace d xs e → OuterWeightsAreZero e
all_few d e [] k h = subst OuterWeightsAreZero (sym h) k
all_few d e (x ∷ xs) k h = all_few h.0 e xs (few d h.0 x h.1 k) h.2

along : (d e : LoopState) (xs : List Action) → AllAreSmall d.connections → IsTrace d xs e → AllAreSmall e.connections
along d e [] all h = subst (λ (x : LoopState). AllAreSmall x.connections) (sym h) all
along d e (x ∷ xs) all h = along h.0 e xs (one d h.0 x h.1 all) h.2

pub bounded : ConnectionsAreBounded
bounded options s xs d h = record {
  count = subst (λ (o : ServeOptions). length d.connections ≤ o.max_connections) (all_options (initial options s) d xs h) (all_few (initial options s) d xs (omega arith) h);
  given = given options s xs d h;
  small = along (initial options s) d xs (λ c t k. absurd (none_some t k)) h;
}
