-- A turn, one connection after another in ascending order of their numbers.
use Rattle.std.proofs.Common.{◌≡◌, ◌==◌, ◌||◌, ◌++◌, ◌∷◌, ◌∙◌, ◌+◌, ◌≤◌, ◌<◌, [], ℕ, List, Bool, true, false, Option, Some, None, cond, refl, ap, sym, subst, arith, nat_lt, flat_map}
use Rattle.std.specs.List.{list_any}
use Rattle.std.proofs.lemmas.Bool.Decides.{nat_tests}
use Rattle.std.proofs.lemmas.List.Concat.{flat_map-append}
use Rattle.std.proofs.lemmas.List.Folds.{list_any-append}
use Rattle.vp_serve.specs.declared.connection.NextAction.{NextAction}
use Rattle.vp_serve.specs.declared.connection.NextAction.TheVariants.{Send, Submit, Receive, Close}
use Rattle.vp_serve.specs.Connection.{Connection}
use Rattle.vp_serve.specs.Connections.{connection_of, new_connection, next_action}
use Rattle.vp_serve.specs.Transfer.{Transfer, Logs}
use Rattle.vp_serve.specs.ServerLoop.{LoopState, Action, IsTransition, IsTrace, Accepted, Rejected, Received, Submitted, Sent, Closed, Grown, Fed, Ended, Waited}
use Rattle.vp_serve.specs.Transport.{transfers_of, ended_names}
use Rattle.vp_serve.specs.Parts.{AreNoReadierBelow, Performs, IsArrival}
use Rattle.vp_serve.specs.Turns.{AreAll, AttendsOne, TakesTurn, has_actions, IsOwn, IsAt, IsDueAt, is_of, replies_made}
use Rattle.vp_serve.specs.Readiness.{Readiness, IsReadyAt, AreNoReadier, is_ready_for}
use Rattle.vp_serve.proofs.Traces.{joined}
use Rattle.vp_serve.proofs.Continuing.{logs_none, logs_both, on}
use Rattle.vp_serve.proofs.Changes.{first_of, connection_of-push}
use Rattle.vp_serve.proofs.OneConnection.{no_some, true_false}
use Rattle.vp_serve.proofs.Ready.{no_readier_none, no_readier_on, ready_before}
use Rattle.vp_serve.proofs.Performing.{all_both, all_as, has_both, made_both, made_none, arrival_is_silent, arrival_is_at, any_acts, own_alone, own_is_silent, own_is_at, own_any, others, still, still_of}

-- what was done for the connections of numbers below `from`; nothing was done for those from there on
pub record TurnSoFar (from now : ℕ) (moved : Bool) (old new : LoopState) (before after : Option (List Transfer)) (first readiness : ℕ → Readiness) : Type 0 where
  pub trace : List Action
  pub is_trace : IsTrace old trace new
  pub logs : Logs before after (flat_map transfers_of trace)
  pub follows : flat_map ended_names trace ≡ []
  pub fair : (c : ℕ) → replies_made c trace ≤ 1
  pub later : (c : ℕ) → from ≤ c → replies_made c trace ≡ 0
  pub moves : has_actions trace ≡ moved
  pub at : AreAll (IsAt now) trace
  pub untouched : (c : ℕ) → from ≤ c → connection_of c new.connections ≡ connection_of c old.connections
  pub served : (c : ℕ) → c < from → IsDueAt c old → list_any (is_of c) trace ≡ true
  pub attended : (c : ℕ) → c < from → IsReadyAt c readiness new → list_any (is_of c) trace ≡ true
  pub no_readier : AreNoReadier first readiness
  pub only_ready : (c : ℕ) → list_any (is_of c) trace ≡ true → IsReadyAt c first old

pub so_far_none : (now : ℕ) (d : LoopState) (a : Option (List Transfer)) (r : ℕ → Readiness) → TurnSoFar 0 now false d d a a r r
so_far_none now d a r = record {
  trace = [];
  is_trace = refl;
  logs = logs_none a a refl;
  follows = refl;
  fair = λ c. omega arith;
  later = λ c h. refl;
  moves = refl;
  at = tt;
  untouched = λ c h. refl;
  served = λ c h. absurd (omega (arith, h));
  attended = λ c h. absurd (omega (arith, h));
  no_readier = no_readier_none r;
  only_ready = λ c h. absurd (true_false (sym h));
}

none_open : (c : ℕ) (d : LoopState) → connection_of c d.connections ≡ None → IsDueAt c d → ⊥
none_open c d h due = no_some (connection_of c d.connections) due.0 h due.1

none_ready : (c : ℕ) (r : ℕ → Readiness) (d : LoopState) → connection_of c d.connections ≡ None → IsReadyAt c r d → ⊥
none_ready c r d h is = no_some (connection_of c d.connections) is.0 h is.1

-- the next connection
pub so_far_one : (from n now : ℕ) (l m : Bool) (d e f : LoopState) (a b c : Option (List Transfer)) (q r s : ℕ → Readiness) → TurnSoFar from now l d e a b q r
    → from ≤ n → ((k : ℕ) → from ≤ k → k < n → connection_of k e.connections ≡ None) → AttendsOne n now m e f b c → (IsDueAt n e → m ≡ true)
    → (IsReadyAt n s f → m ≡ true) → (m ≡ true → IsReadyAt n r e) → AreNoReadier r s → TurnSoFar (n + 1) now (l || m) d f a c q s
so_far_one from n now l m d e f a b c q r s x le gap y due ready only no_readier = record {
  trace = x.trace ++ y.trace;
  is_trace = joined d e f x.trace y.trace x.is_trace y.is_trace;
  logs = subst (λ (ts : List Transfer). Logs a c ts) (sym (flat_map-append transfers_of x.trace y.trace)) (logs_both a b c (flat_map transfers_of x.trace) (flat_map transfers_of y.trace) x.logs y.logs);
  follows = flat_map-append ended_names x.trace y.trace ∙ ap (λ (l : List (List ℕ)). l ++ flat_map ended_names y.trace) x.follows ∙ y.follows;
  fair = λ k. fair_at k (n == k) refl;
  later = λ k h. omega (arith, made_both k x.trace y.trace, x.later k (omega (arith, le, h)), silent k (apart k h));
  moves = has_both x.trace y.trace ∙ ap (λ t. t || has_actions y.trace) x.moves ∙ ap (λ t. l || t) y.moves;
  at = all_both (IsAt now) x.trace y.trace x.at (all_as (IsOwn n now) (IsAt now) (own_is_at n now) y.trace y.own);
  untouched = λ k h. others k n now e f y.trace (apart k h) y.is_trace y.own ∙ x.untouched k (omega (arith, le, h));
  served = λ k h is. list_any-append (is_of k) x.trace y.trace ∙ served_at k h is (nat_lt k from) refl (n == k) refl;
  attended = λ k h is. list_any-append (is_of k) x.trace y.trace ∙ attended_at k h is (nat_lt k from) refl (n == k) refl;
  no_readier = no_readier_on q r s x.no_readier no_readier;
  only_ready = λ k h. only_at k (list_any (is_of k) x.trace) refl (sym (list_any-append (is_of k) x.trace y.trace) ∙ h);
}
  where
    apart : (k : ℕ) → n + 1 ≤ k → (n == k) ≡ false
    apart k h = grind (arith, nat_tests, h)

    silent : (k : ℕ) → (n == k) ≡ false → replies_made k y.trace ≡ 0
    silent k h = made_none k (IsOwn n now) (own_is_silent k n now h) y.trace y.own

    equal : (k : ℕ) → (n == k) ≡ true → n ≡ k
    equal k h = grind (arith, nat_tests, h)

    fair_at : (k : ℕ) (t : Bool) → (n == k) ≡ t → replies_made k (x.trace ++ y.trace) ≤ 1
    fair_at k true h = subst (λ j. replies_made j (x.trace ++ y.trace) ≤ 1) (equal k h) (omega (arith, made_both n x.trace y.trace, x.later n le, y.fair))
    fair_at k false h = omega (arith, made_both k x.trace y.trace, x.fair k, silent k h)

    was : IsReadyAt n r e → IsReadyAt n q d
    was is = (is.0, sym (x.untouched n le) ∙ is.1, ready_before n (next_action is.0) q r x.no_readier is.2)

    only_at : (k : ℕ) (t : Bool) → list_any (is_of k) x.trace ≡ t → t || list_any (is_of k) y.trace ≡ true → IsReadyAt k q d
    only_at k true is h = x.only_ready k is
    only_at k false is h = subst (λ j. IsReadyAt j q d) (own_alone k n now y.trace y.own h) (was (only (sym y.moves ∙ any_acts (is_of k) y.trace h)))

    or_left : (p q : Bool) → p ≡ true → p || q ≡ true
    or_left p q h = ap (λ t. t || q) h

    or_right : (p q : Bool) → q ≡ true → p || q ≡ true
    or_right true q h = refl
    or_right false q h = h

    below : (k : ℕ) → nat_lt k from ≡ true → k < from
    below k h = grind (arith, nat_tests, h)

    above : (k : ℕ) → nat_lt k from ≡ false → from ≤ k
    above k h = grind (arith, nat_tests, h)

    between : (k : ℕ) → k < n + 1 → (n == k) ≡ false → k < n
    between k h e = grind (arith, nat_tests, h, e)

    here : (k : ℕ) → from ≤ k → IsDueAt k d → IsDueAt k e
    here k h is = (is.0, x.untouched k h ∙ is.1, is.2)

    served_at : (k : ℕ) → k < n + 1 → IsDueAt k d → (t : Bool) → nat_lt k from ≡ t → (u : Bool) → (n == k) ≡ u → list_any (is_of k) x.trace || list_any (is_of k) y.trace ≡ true
    served_at k h is true less u e = or_left (list_any (is_of k) x.trace) (list_any (is_of k) y.trace) (x.served k (below k less) is)
    served_at k h is false less true e =
        subst (λ j. IsDueAt j d → list_any (is_of j) x.trace || list_any (is_of j) y.trace ≡ true) (equal k e)
        (λ was. or_right (list_any (is_of n) x.trace) (list_any (is_of n) y.trace) (own_any n now y.trace y.own (y.moves ∙ due (here n le was)))) is
    served_at k h is false less false e =
        absurd (none_open k d (sym (x.untouched k (above k less)) ∙ gap k (above k less) (between k h e)) is)

    under : (k : ℕ) → k < from → (n == k) ≡ false
    under k h = grind (arith, nat_tests, le, h)

    same : (k : ℕ) → (n == k) ≡ false → connection_of k f.connections ≡ connection_of k e.connections
    same k h = others k n now e f y.trace h y.is_trace y.own

    was_ready : (k : ℕ) → (n == k) ≡ false → IsReadyAt k s f → IsReadyAt k r e
    was_ready k h is = (is.0, sym (same k h) ∙ is.1, ready_before k (next_action is.0) r s no_readier is.2)

    attended_at : (k : ℕ) → k < n + 1 → IsReadyAt k s f → (t : Bool) → nat_lt k from ≡ t → (u : Bool) → (n == k) ≡ u → list_any (is_of k) x.trace || list_any (is_of k) y.trace ≡ true
    attended_at k h is true less u e =
        or_left (list_any (is_of k) x.trace) (list_any (is_of k) y.trace) (x.attended k (below k less) (was_ready k (under k (below k less)) is))
    attended_at k h is false less true e =
        subst (λ j. IsReadyAt j s f → list_any (is_of j) x.trace || list_any (is_of j) y.trace ≡ true) (equal k e)
        (λ now_ready. or_right (list_any (is_of n) x.trace) (list_any (is_of n) y.trace) (own_any n now y.trace y.own (y.moves ∙ ready now_ready))) is
    attended_at k h is false less false u =
        absurd (none_ready k s f (same k u ∙ gap k (above k less) (between k h u)) is)

-- no other connection
pub so_far_all : (from now : ℕ) (m : Bool) (d e : LoopState) (a b : Option (List Transfer)) (q r : ℕ → Readiness) → TurnSoFar from now m d e a b q r
    → ((k : ℕ) → from ≤ k → connection_of k e.connections ≡ None) → TakesTurn now m d e a b q r
so_far_all from now m d e a b q r x rest = record {
  does = record { trace = x.trace; is_trace = x.is_trace; logs = x.logs; follows = x.follows };
  turn = record { is_trace = x.is_trace; fair = x.fair; at = x.at; served = λ c is. at c is (nat_lt c from) refl };
  moves = x.moves;
  attended = λ c is. ready_at c is (nat_lt c from) refl;
  only_ready = λ c less h. x.only_ready c h;
}
  where
    at : (c : ℕ) → IsDueAt c d → (t : Bool) → nat_lt c from ≡ t → list_any (is_of c) x.trace ≡ true
    at c is true less = x.served c (grind (arith, nat_tests, less)) is
    at c is false less =
        let above : from ≤ c = grind (arith, nat_tests, less) in
        absurd (none_open c d (sym (x.untouched c above) ∙ rest c above) is)

    ready_at : (c : ℕ) → IsReadyAt c r e → (t : Bool) → nat_lt c from ≡ t → list_any (is_of c) x.trace ≡ true
    ready_at c is true less = x.attended c (grind (arith, nat_tests, less)) is
    ready_at c is false less = absurd (none_ready c r e (rest c (grind (arith, nat_tests, less))) is)

-- ---- arrivals first

stays : (c now : ℕ) (t : Connection) (d e : LoopState) (x : Action) → IsTransition d x e → IsArrival now x → connection_of c d.connections ≡ Some t → connection_of c e.connections ≡ Some t
stays c now t d e (Accepted k time) h is there =
    ap (λ (x : LoopState). connection_of c x.connections) h.3 ∙ connection_of-push c (new_connection k time) d.connections
    ∙ ap (λ (o : Option Connection). first_of o (cond (k == c) (Some (new_connection k time)) None)) there
stays c now t d e (Rejected k fault) h is there = ap (λ (x : LoopState). connection_of c x.connections) h.3 ∙ there
stays c now t d e (Received k bytes) h is there = elim is [ ]
stays c now t d e (Submitted k time line o) h is there = elim is [ ]
stays c now t d e (Sent k time bytes) h is there = elim is [ ]
stays c now t d e (Closed k time reason o) h is there = elim is [ ]
stays c now t d e (Grown piece) h is there = elim is [ ]
stays c now t d e (Fed piece o) h is there = elim is [ ]
stays c now t d e (Ended name o) h is there = elim is [ ]
stays c now t d e (Waited busy clock) h is there = elim is [ ]

all_stay : (c now : ℕ) (t : Connection) (d e : LoopState) (xs : List Action) → IsTrace d xs e → AreAll (IsArrival now) xs → connection_of c d.connections ≡ Some t → connection_of c e.connections ≡ Some t
all_stay c now t d e [] h is there = ap (λ (x : LoopState). connection_of c x.connections) h ∙ there
all_stay c now t d e (x ∷ xs) h is there = all_stay c now t h.0 e xs h.2 is.1 (stays c now t d h.0 x h.1 is.0 there)

-- an arrival takes the next number, so it changes no connection of a smaller one
arrival_apart : (c now : ℕ) (d e : LoopState) (x : Action) → IsTransition d x e → IsArrival now x → c < d.next
    → (is_of c x ≡ false) × (d.next ≤ e.next) × (connection_of c e.connections ≡ connection_of c d.connections)
arrival_apart c now d e (Accepted k time) h is less =
    let other : (k == c) ≡ false = grind (arith, nat_tests, h.0, less) in (
      other,
      omega (arith, h.0, ap (λ (x : LoopState). x.next) h.3),
      ap (λ (x : LoopState). connection_of c x.connections) h.3 ∙ connection_of-push c (new_connection k time) d.connections
          ∙ ap (λ (b : Bool). first_of (connection_of c d.connections) (cond b (Some (new_connection k time)) None)) other ∙ first_alone (connection_of c d.connections),
    )
  where
    first_alone : (o : Option Connection) → first_of o None ≡ o
    first_alone None = refl
    first_alone (Some t) = refl
arrival_apart c now d e (Rejected k fault) h is less =
    let other : (k == c) ≡ false = grind (arith, nat_tests, h.0, less) in
    (other, omega (arith, h.0, ap (λ (x : LoopState). x.next) h.3), ap (λ (x : LoopState). connection_of c x.connections) h.3)
arrival_apart c now d e (Received k bytes) h is less = elim is [ ]
arrival_apart c now d e (Submitted k time line o) h is less = elim is [ ]
arrival_apart c now d e (Sent k time bytes) h is less = elim is [ ]
arrival_apart c now d e (Closed k time reason o) h is less = elim is [ ]
arrival_apart c now d e (Grown piece) h is less = elim is [ ]
arrival_apart c now d e (Fed piece o) h is less = elim is [ ]
arrival_apart c now d e (Ended name o) h is less = elim is [ ]
arrival_apart c now d e (Waited busy clock) h is less = elim is [ ]

pub arrivals_apart : (c now : ℕ) (d e : LoopState) (xs : List Action) → IsTrace d xs e → AreAll (IsArrival now) xs → c < d.next
    → (list_any (is_of c) xs ≡ false) × (d.next ≤ e.next) × (connection_of c e.connections ≡ connection_of c d.connections)
arrivals_apart c now d e [] h is less = (refl, omega (arith, ap (λ (x : LoopState). x.next) h), ap (λ (x : LoopState). connection_of c x.connections) h)
arrivals_apart c now d e (x ∷ xs) h is less =
    let one = arrival_apart c now d h.0 x h.1 is.0 less in
    let more = arrivals_apart c now h.0 e xs h.2 is.1 (omega (arith, less, one.1)) in
    (ap (λ t. t || list_any (is_of c) xs) one.0 ∙ more.0, omega (arith, one.1, more.1), more.2 ∙ one.2)

arrival_grows : (now : ℕ) (d e : LoopState) (x : Action) → IsTransition d x e → IsArrival now x → d.next ≤ e.next
arrival_grows now d e (Accepted k time) h is = omega (arith, h.0, ap (λ (x : LoopState). x.next) h.3)
arrival_grows now d e (Rejected k fault) h is = omega (arith, h.0, ap (λ (x : LoopState). x.next) h.3)
arrival_grows now d e (Received k bytes) h is = elim is [ ]
arrival_grows now d e (Submitted k time line o) h is = elim is [ ]
arrival_grows now d e (Sent k time bytes) h is = elim is [ ]
arrival_grows now d e (Closed k time reason o) h is = elim is [ ]
arrival_grows now d e (Grown piece) h is = elim is [ ]
arrival_grows now d e (Fed piece o) h is = elim is [ ]
arrival_grows now d e (Ended name o) h is = elim is [ ]
arrival_grows now d e (Waited busy clock) h is = elim is [ ]

pub arrivals_grow : (now : ℕ) (d e : LoopState) (xs : List Action) → IsTrace d xs e → AreAll (IsArrival now) xs → d.next ≤ e.next
arrivals_grow now d e [] h is = omega (arith, ap (λ (x : LoopState). x.next) h)
arrivals_grow now d e (x ∷ xs) h is = omega (arith, arrival_grows now d h.0 x h.1 is.0, arrivals_grow now h.0 e xs h.2 is.1)

pub after_arrivals : (now : ℕ) (m n : Bool) (d e f : LoopState) (a b c : Option (List Transfer)) (q r s : ℕ → Readiness) → Performs (IsArrival now) m d e a b → AreNoReadierBelow d.next q r → TakesTurn now n e f b c r s
    → TakesTurn now (m || n) d f a c q s
unfolding on
after_arrivals now m n d e f a b c q r s x no_readier y = record {
  does = on d e f a b c (record { trace = x.trace; is_trace = x.is_trace; logs = x.logs; follows = x.follows }) y.does;
  turn = record {
    is_trace = joined d e f x.trace y.does.trace x.is_trace y.turn.is_trace;
    fair = λ k. omega (arith, made_both k x.trace y.does.trace, made_none k (IsArrival now) (arrival_is_silent k now) x.trace x.kind, y.turn.fair k);
    at = all_both (IsAt now) x.trace y.does.trace (all_as (IsArrival now) (IsAt now) (arrival_is_at now) x.trace x.kind) y.turn.at;
    served = λ k is. list_any-append (is_of k) x.trace y.does.trace ∙ or_right (list_any (is_of k) x.trace) (list_any (is_of k) y.does.trace) (y.turn.served k (is.0, all_stay k now is.0 d e x.trace x.is_trace x.kind is.1, is.2));
  };
  moves = has_both x.trace y.does.trace ∙ ap (λ t. t || has_actions y.does.trace) x.moves ∙ ap (λ t. m || t) y.moves;
  attended = λ k is. list_any-append (is_of k) x.trace y.does.trace ∙ or_right (list_any (is_of k) x.trace) (list_any (is_of k) y.does.trace) (y.attended k is);
  only_ready = λ k less h.
      let apart = arrivals_apart k now d e x.trace x.is_trace x.kind less in
      let any : list_any (is_of k) y.does.trace ≡ true = ap (λ t. t || list_any (is_of k) y.does.trace) (sym apart.0) ∙ sym (list_any-append (is_of k) x.trace y.does.trace) ∙ h in
      was_ready k less apart.2 (y.only_ready k (omega (arith, less, apart.1)) any);
}
  where
    was_ready : (k : ℕ) → k < d.next → connection_of k e.connections ≡ connection_of k d.connections → IsReadyAt k r e → IsReadyAt k q d
    was_ready k less same is = (is.0, sym same ∙ is.1, at (next_action is.0) is.2)
      where
        at : (n : NextAction) → is_ready_for (r k) n ≡ true → is_ready_for (q k) n ≡ true
        at Send h = (no_readier k less).1 h
        at Receive h = (no_readier k less).0 h
        at Submit h = refl
        at Close h = refl

    or_right : (p q : Bool) → q ≡ true → p || q ≡ true
    or_right true q h = refl
    or_right false q h = h

pub turn_still : (P : Action → Type 0) (m n o : Bool) (d e f : LoopState) (a b : Option (List Transfer)) → Performs P m d e a b → (n ≡ false → f ≡ e) → o ≡ m || n → o ≡ false → f ≡ d
turn_still P true n o d e f a b x h i j = absurd (true_false (sym i ∙ j))
turn_still P false n o d e f a b x h i j = h (sym i ∙ j) ∙ still P false d e a b x refl

pub attended_still : (c now : ℕ) (m n o : Bool) (d e f : LoopState) (a b : Option (List Transfer)) → (m ≡ false → e ≡ d) → AttendsOne c now n e f a b → o ≡ m || n → o ≡ false → f ≡ d
attended_still c now true n o d e f a b h x i j = absurd (true_false (sym i ∙ j))
attended_still c now false n o d e f a b h x i j = still_of e f x.trace x.is_trace (x.moves ∙ sym i ∙ j) ∙ h refl
