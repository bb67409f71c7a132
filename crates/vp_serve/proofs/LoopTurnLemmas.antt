-- Turns of the loop, one after another.
use Rattle.std.proofs.Common.{◌≡◌, ◌||◌, ◌++◌, ◌∷◌, ◌∙◌, ◌+◌, ◌<◌, ◌≤◌, ◌^◌, ◌-◌, ◌&&◌, ◌⊎◌, not, inl, inr, [], ℕ, List, Bool, true, false, Option, Some, None, if◌then◌else◌, option_map, refl, ap, sym, subst, arith, length, append-nil, flat_map}
use Rattle.std.specs.Prelude.{is_some}
use Rattle.std.specs.List.{list_all, list_any}
use Rattle.std.proofs.lemmas.List.Concat.{flat_map-append}
use Rattle.std.proofs.lemmas.List.Folds.{list_any-append}
use Rattle.vp_serve.specs.declared.schedule.Schedule.{Schedule}
use Rattle.vp_serve.specs.Transfer.{Transfer, Logs, Waits}
use Rattle.vp_serve.specs.ServerLoop.{LoopState, AwaitsPeers, Action, Grown, Fed, Waited, IsTransition, is_over}
use Rattle.vp_serve.specs.Transport.{ContinuesLoop, transfers_of, ended_names}
use Rattle.vp_serve.specs.Parts.{Feeds, FeedsThrough, Performs}
use Rattle.vp_serve.specs.Turns.{TakesTurn, has_actions, is_due, is_of}
use Rattle.vp_serve.specs.Readiness.{Readiness, IsReadyAt, AreNoReadier}
use Rattle.vp_serve.specs.Connection.{Connection}
use Rattle.vp_serve.specs.Connections.{connection_of, next_action}
use Rattle.vp_serve.specs.Files.{is_fed, is_refused}
use Rattle.vp_hub.specs.Hub.{Outcome}
use Rattle.vp_hub.specs.View.{is_memory}
use Rattle.vp_serve.specs.declared.options.FilePiece.{FilePiece}
use Rattle.vp_serve.specs.Schedule.{AreStillOpen, IsCounted, IsPolled, IsScheduled, IsTimely}
use Rattle.vp_serve.specs.LoopTurns.{FollowsFiles, IsIdleClosing, IsOfFile, IsLoopTurn, TakesLoopTurn, LoopTurn, AreLoopTurns, TakesLoopTurns, AreAttended, first_schedule, goes_on, is_busy}
use Rattle.vp_serve.proofs.Continuing.{logs_none, on}
use Rattle.vp_serve.proofs.Performing.{all_both, any_acts, has_both, performs_one, performs_on}
use Rattle.vp_serve.proofs.OneConnection.{true_false}
use Rattle.vp_serve.proofs.Ready.{ready_before}
use Rattle.vp_serve.proofs.Timeouts.{scheduled_first}

abbrev pub performs_continue : (P : Action → Type 0) (m : Bool) (d e : LoopState) (a b : Option (List Transfer)) → Performs P m d e a b → ContinuesLoop d e a b
performs_continue P m d e a b x = record { trace = x.trace; is_trace = x.is_trace; logs = x.logs; follows = x.follows }

-- ---- the files

unfoldable pub feeds_quiet : (names : List (List ℕ)) (d : LoopState) (a b : Option (List Transfer)) → Logs a b [] → Feeds names false d d a b
feeds_quiet names d a b logs = record {
  moved = false;
  does = record { trace = []; is_trace = refl; logs = logs; follows = refl; kind = tt; moves = refl };
  took = refl;
}

pub feeds_one : (names : List (List ℕ)) (m : Bool) (d e : LoopState) (x : Action) (a b : Option (List Transfer)) → IsTransition d x e → Logs a b (transfers_of x) → ended_names x ≡ [] → IsOfFile names x → m ≡ is_fed x
    → Feeds names m d e a b
unfolding performs_one
feeds_one names m d e x a b step logs follows is taken = record {
  moved = true;
  does = performs_one (IsOfFile names) d e x a b step logs follows is;
  took = or_false (is_fed x) ∙ sym taken;
}
  where
    or_false : (p : Bool) → p || false ≡ p
    or_false true = refl
    or_false false = refl

pub feeds_on : (names : List (List ℕ)) (m n : Bool) (d e f : LoopState) (a b c : Option (List Transfer)) → Feeds names m d e a b → Feeds names n e f b c → Feeds names (m || n) d f a c
unfolding performs_on
feeds_on names m n d e f a b c x y = record {
  moved = x.moved || y.moved;
  does = performs_on (IsOfFile names) x.moved y.moved d e f a b c x.does y.does;
  took = list_any-append is_fed x.does.trace y.does.trace ∙ ap (λ t. t || list_any is_fed y.does.trace) x.took ∙ ap (λ t. m || t) y.took;
}

abbrev pub feeds_continue : (names : List (List ℕ)) (m : Bool) (d e : LoopState) (a b : Option (List Transfer)) → Feeds names m d e a b → ContinuesLoop d e a b
feeds_continue names m d e a b x = performs_continue (IsOfFile names) x.moved d e a b x.does

pub follows_none : (names : List (List ℕ)) (d : LoopState) (a : Option (List Transfer)) → FollowsFiles names d d a a
follows_none names d a = record { does = record { trace = []; is_trace = refl; logs = logs_none a a refl; follows = refl }; files = tt }

pub follows_on : (names : List (List ℕ)) (m : Bool) (d e f : LoopState) (a b c : Option (List Transfer)) → FollowsFiles names d e a b → Feeds names m e f b c → FollowsFiles names d f a c
unfolding on
follows_on names m d e f a b c x y = record { does = on d e f a b c x.does (feeds_continue names m e f b c y); files = all_both (IsOfFile names) x.does.trace y.does.trace x.files y.does.kind }

any_first : (f : Action → Bool) (xs ys : List Action) → list_any f xs ≡ true → list_any f (xs ++ ys) ≡ true
any_first f xs ys h = list_any-append f xs ys ∙ ap (λ t. t || list_any f ys) h

any_second : (f : Action → Bool) (xs ys : List Action) → list_any f ys ≡ true → list_any f (xs ++ ys) ≡ true
any_second f xs ys h = list_any-append f xs ys ∙ ap (λ t. list_any f xs || t) h ∙ or_true (list_any f xs)
  where
    or_true : (b : Bool) → b || true ≡ true
    or_true true = refl
    or_true false = refl

pub through_quiet : (names : List (List ℕ)) (d : LoopState) (a b : Option (List Transfer)) → Logs a b [] → FeedsThrough names false (is_some d.waiting) d d a b
through_quiet names d a b logs = record { feeds = feeds_quiet names d a b logs; left = λ h. inl h }

pub through_none : (names : List (List ℕ)) (d : LoopState) (a b : Option (List Transfer)) → Logs a b [] → option_map (λ (p : FilePiece). p.place) d.waiting ≡ None → FeedsThrough names false false d d a b
through_none names d a b logs none = record { feeds = feeds_quiet names d a b logs; left = λ h. inl (by d.waiting none ∙ h) }
  where
    by : (o : Option FilePiece) → option_map (λ (p : FilePiece). p.place) o ≡ None → false ≡ is_some o
    by None e = refl
    by (Some p) e = cc

-- the piece that waits is fed
pub through_fed : (names : List (List ℕ)) (m : Bool) (d e : LoopState) (piece : FilePiece) (o : Outcome) (a b : Option (List Transfer)) → IsTransition d (Fed piece o) e → Logs a b [] → m ≡ is_fed (Fed piece o)
    → FeedsThrough names m false d e a b
unfolding feeds_one performs_one
through_fed names m d e piece o a b step logs taken = record {
  feeds = feeds_one names m d e (Fed piece o) a b step logs refl tt taken;
  left = λ h. inr (by (is_memory o) (ap (λ (x : LoopState). is_some x.waiting) (sym step.2) ∙ h));
}
  where
    by : (t : Bool) → is_some (if t then Some piece else None) ≡ true → t || false ≡ true
    by true h = refl
    by false h = absurd (true_false (sym h))

-- a piece is read, and fed
pub through_read : (names : List (List ℕ)) (n : Bool) (d e f : LoopState) (piece : FilePiece) (a b c : Option (List Transfer)) (waited : Bool) → IsTransition d (Grown piece) e → Logs a b (transfers_of (Grown piece))
    → IsOfFile names (Grown piece) → FeedsThrough names n false e f b c → FeedsThrough names n waited d f a c
unfolding feeds_on feeds_one performs_on performs_one
through_read names n d e f piece a b c waited step logs is x = record {
  feeds = feeds_on names false n d e f a b c (feeds_one names false d e (Grown piece) a b step logs refl is refl) x.feeds;
  left = λ h. elim (x.left h) [
    | inl never ↦ absurd (true_false (sym never))
    | inr refused ↦ inr (any_second is_refused (Grown piece ∷ []) x.feeds.does.trace refused)
  ];
}

pub through_on : (names : List (List ℕ)) (m n : Bool) (d e f : LoopState) (a b c : Option (List Transfer)) → FeedsThrough names m false d e a b → FeedsThrough names n (is_some e.waiting) e f b c → FeedsThrough names (m || n) false d f a c
unfolding feeds_on performs_on
through_on names m n d e f a b c x y = record {
  feeds = feeds_on names m n d e f a b c x.feeds y.feeds;
  left = λ h. elim (y.left h) [
    | inl waits ↦ elim (x.left waits) [
      | inl never ↦ inl never
      | inr refused ↦ inr (any_first is_refused x.feeds.does.trace y.feeds.does.trace refused)
    ]
    | inr refused ↦ inr (any_second is_refused x.feeds.does.trace y.feeds.does.trace refused)
  ];
}

-- ---- a turn of the loop

abbrev waits : (busy : Bool) (clock : ℕ) (d : LoopState) (a b : Option (List Transfer)) → (busy ≡ false → AwaitsPeers d) → Logs a b (Waits busy clock ∷ []) → ContinuesLoop d d a b
waits busy clock d a b h logs = record { trace = Waited busy clock ∷ []; is_trace = (d, (h, refl), refl); logs = logs; follows = refl }

no_action : (xs : List Action) → has_actions xs ≡ false → xs ≡ []
no_action [] h = refl
no_action (x ∷ xs) h = absurd (true_false h)

rests_of : (m l g q b : Bool) → b ≡ ((m || l) || g) || q → b ≡ false → (m ≡ false) × (l ≡ false) × (g ≡ false)
rests_of true l g q b e h = absurd (true_false (sym e ∙ h))
rests_of false true g q b e h = absurd (true_false (sym e ∙ h))
rests_of false false true q b e h = absurd (true_false (sym e ∙ h))
rests_of false false false q b e h = (refl, refl, refl)

moves_of : (m l g p q b : Bool) (xs : List Action) → b ≡ ((m || l) || g) || q → has_actions xs ≡ m || (l || p) → (g ≡ true → p ≡ true) → b ≡ true → (has_actions xs ≡ true) ⊎ (q ≡ true)
moves_of true l g p q b xs e h acts k = inl h
moves_of false true g p q b xs e h acts k = inl h
moves_of false false true p q b xs e h acts k = inl (h ∙ acts refl)
moves_of false false false p q b xs e h acts k = inr (sym e ∙ k)

any_within : (f : Action → Bool) (xs ys zs : List Action) → list_any f ys ≡ true → list_any f (xs ++ (ys ++ zs)) ≡ true
any_within f xs ys zs h =
    list_any-append f xs (ys ++ zs) ∙ ap (λ t. list_any f xs || t) (list_any-append f ys zs ∙ ap (λ t. t || list_any f zs) h) ∙ or_true (list_any f xs)
  where
    or_true : (b : Bool) → b || true ≡ true
    or_true true = refl
    or_true false = refl

-- the parts of a turn of the loop make one
pub takes : (names : List (List ℕ)) (s r : Schedule) (m l g : Bool) (d e f h : LoopState) (a b c i j : Option (List Transfer)) (o p q : ℕ → Readiness) → (is_busy s d ≡ false → AwaitsPeers d)
    → Logs a b (Waits (is_busy s d) r.clock ∷ []) → TakesTurn r.time m d e b c o p → Performs (IsIdleClosing r.time) l e f c i → (fed : Feeds names g f h i j) → (r.clock < s.next_poll → fed.does.trace ≡ []) → (s.next_poll ≤ r.clock → is_some h.waiting ≡ true → list_any is_refused fed.does.trace ≡ true) → IsPolled h.options.poll_interval g s r → IsCounted s r → (r.is_busy ≡ false → AwaitsPeers h)
    → r.is_busy ≡ ((m || l) || g) || list_any is_due h.connections → AreStillOpen e.connections f.connections → h.connections ≡ f.connections → AreNoReadier p q → TakesLoopTurn names s r d h a j q
unfolding on
takes names s r m l g d e f h a b c i j o p q await logs x y z polls refused polled counted rest test still_open kept no_readier = let due = list_any is_due h.connections in record {
  does = on d d h a b j (waits (is_busy s d) r.clock d a b await logs) (on d e h b c j x.does (on e f h c i j (performs_continue (IsIdleClosing r.time) l e f c i y) (feeds_continue names g f h i j z)));
  turn = record {
    attended = e;
    left = f;
    taken = x.does.trace;
    closings = y.trace;
    feeds = z.does.trace;
    whole = refl;
    turn = x.turn;
    closes = y.is_trace;
    idle = y.kind;
    grows = z.does.is_trace;
    files = z.does.kind;
    polls = polls;
    fed = refused;
    polled = subst (λ t. IsPolled h.options.poll_interval t s r) (sym z.took) polled;
    counted = counted;
    rests = λ is.
        let none = rests_of m l g due r.is_busy test is in
        (rest is, no_action x.does.trace (x.moves ∙ none.0), no_action y.trace (y.moves ∙ none.1), z.took ∙ none.2);
    moves = moves_of m l g z.moved due r.is_busy (x.does.trace ++ (y.trace ++ z.does.trace)) test has (λ k. sym z.does.moves ∙ any_acts is_fed z.does.trace (z.took ∙ k));
  };
  attended = λ k is. any_within (is_of k) (Waited (is_busy s d) r.clock ∷ []) x.does.trace (y.trace ++ z.does.trace) (x.attended k (was_ready k is));
}
  where
    was_ready : (k : ℕ) → IsReadyAt k q h → IsReadyAt k p e
    was_ready k is = (
      is.0,
      still_open k is.0 (sym (ap (λ (cs : List Connection). connection_of k cs) kept) ∙ is.1),
      ready_before k (next_action is.0) p q no_readier is.2,
    )

    has : has_actions (x.does.trace ++ (y.trace ++ z.does.trace)) ≡ m || (l || z.moved)
    has =
        has_both x.does.trace (y.trace ++ z.does.trace)
        ∙ ap (λ t. has_actions x.does.trace || t) (has_both y.trace z.does.trace ∙ ap (λ t. t || has_actions z.does.trace) y.moves ∙ ap (λ t. l || t) z.does.moves)
        ∙ ap (λ t. t || (l || z.moved)) x.moves

-- ---- one after another

-- a number of turns so far
pub record TurnsSoFar (names : List (List ℕ)) (n : ℕ) (r : Schedule) (d e : LoopState) (before after : Option (List Transfer)) : Type 0 where
  pub turns : List LoopTurn
  pub does : ContinuesLoop d e before after
  pub are : AreLoopTurns names first_schedule d turns r e
  pub whole : does.trace ≡ flat_map (λ x. x.trace) turns
  pub count : length turns ≡ n
  pub scheduled : IsScheduled r e

pub turns_none : (names : List (List ℕ)) (r : Schedule) (d : LoopState) (a : Option (List Transfer)) → r ≡ first_schedule → TurnsSoFar names 0 r d d a a
turns_none names r d a h = record {
  turns = [];
  does = record { trace = []; is_trace = refl; logs = logs_none a a refl; follows = refl };
  are = (h, refl);
  whole = refl;
  count = refl;
  scheduled = scheduled_first r d h;
}

and_then : (names : List (List ℕ)) (s : Schedule) (d : LoopState) (xs : List LoopTurn) (r : Schedule) (e : LoopState) (x : LoopTurn) → AreLoopTurns names s d xs r e → IsLoopTurn names r x.schedule e x.trace x.server
    → AreAttended x → IsScheduled x.schedule x.server → IsTimely x.schedule.time x.server → AreLoopTurns names s d (xs ++ x ∷ []) x.schedule x.server
and_then names s d [] r e x h turn attended scheduled timely =
    (subst (λ (t : Schedule). IsLoopTurn names t x.schedule d x.trace x.server) h.0 (subst (λ (y : LoopState). IsLoopTurn names r x.schedule y x.trace x.server) h.1 turn), attended, scheduled, timely, (refl, refl))
and_then names s d (y ∷ ys) r e x h turn attended scheduled timely = (h.0, h.1, h.2, h.3, and_then names y.schedule y.server ys r e x h.4 turn attended scheduled timely)

one_more : (xs : List LoopTurn) (x : LoopTurn) → length (xs ++ x ∷ []) ≡ length xs + 1
one_more [] x = refl
one_more (y ∷ ys) x = omega (arith, one_more ys x)

pub turns_more : (names : List (List ℕ)) (n : ℕ) (r q : Schedule) (d e f : LoopState) (a b c : Option (List Transfer)) (readiness : ℕ → Readiness) → TurnsSoFar names n r d e a b → TakesLoopTurn names r q e f b c readiness
    → (IsScheduled r e → IsScheduled q f) → (IsScheduled r e → IsTimely q.time f) → TurnsSoFar names (n + 1) q d f a c
unfolding on
turns_more names n r q d e f a b c readiness x y scheduled timely = let turn : LoopTurn = record { trace = y.does.trace; schedule = q; server = f; readiness = readiness } in record {
  turns = x.turns ++ turn ∷ [];
  does = on d e f a b c x.does y.does;
  are = and_then names first_schedule d x.turns r e turn x.are y.turn y.attended (scheduled x.scheduled) (timely x.scheduled);
  whole = ap (λ (l : List Action). l ++ y.does.trace) x.whole ∙ ap (λ (l : List Action). flat_map (λ (z : LoopTurn). z.trace) x.turns ++ l) (sym (append-nil y.does.trace))
      ∙ sym (flat_map-append (λ (z : LoopTurn). z.trace) x.turns (turn ∷ []));
  count = one_more x.turns turn ∙ ap (λ (k : ℕ). k + 1) x.count;
  scheduled = scheduled x.scheduled;
}

-- turns so far, after each of which the server goes on
pub record GoesOn (names : List (List ℕ)) (n : ℕ) (r : Schedule) (d e : LoopState) (before after : Option (List Transfer)) : Type 0 where
  pub far : TurnsSoFar names n r d e before after
  pub going : list_all goes_on far.turns ≡ true

pub goes_none : (names : List (List ℕ)) (r : Schedule) (d : LoopState) (a : Option (List Transfer)) → r ≡ first_schedule → GoesOn names 0 r d d a a
unfolding turns_none
goes_none names r d a h = record { far = turns_none names r d a h; going = refl }

all_and : (xs : List LoopTurn) (x : LoopTurn) → list_all goes_on xs ≡ true → goes_on x ≡ true → list_all goes_on (xs ++ x ∷ []) ≡ true
all_and [] x h k = ap (λ (b : Bool). b && true) k
all_and (y ∷ ys) x h k = both (goes_on y) (list_all goes_on ys) (list_all goes_on (ys ++ x ∷ [])) h (λ all. all_and ys x all k)
  where
    both : (p q t : Bool) → p && q ≡ true → (q ≡ true → t ≡ true) → p && t ≡ true
    both true q t h f = f h
    both false q t h f = h

pub goes_more : (names : List (List ℕ)) (n : ℕ) (r q : Schedule) (d e f : LoopState) (a b c : Option (List Transfer)) (readiness : ℕ → Readiness) → GoesOn names n r d e a b → TakesLoopTurn names r q e f b c readiness
    → (IsScheduled r e → IsScheduled q f) → (IsScheduled r e → IsTimely q.time f) → is_over f ≡ false → GoesOn names (n + 1) q d f a c
unfolding turns_more
goes_more names n r q d e f a b c readiness x y scheduled timely goes = record {
  far = turns_more names n r q d e f a b c readiness x.far y scheduled timely;
  going = all_and x.far.turns (record { trace = y.does.trace; schedule = q; server = f; readiness = readiness }) x.going (ap not goes);
}

pub goes_to_the_last : (names : List (List ℕ)) (n : ℕ) (r : Schedule) (d e : LoopState) (a b : Option (List Transfer)) → GoesOn names n r d e a b → n ≡ 2 ^ 64 - 1 → TakesLoopTurns names false d e a b
goes_to_the_last names n r d e a b x all = record {
  turns = x.far.turns;
  last = r;
  does = x.far.does;
  are = x.far.are;
  whole = x.far.whole;
  count = λ is. (x.far.count ∙ all, x.going);
  ends = λ is. absurd (true_false (sym is));
}

pub ends_with : (names : List (List ℕ)) (n : ℕ) (r q : Schedule) (d e f : LoopState) (a b c : Option (List Transfer)) (readiness : ℕ → Readiness) → GoesOn names n r d e a b → TakesLoopTurn names r q e f b c readiness
    → (IsScheduled r e → IsScheduled q f) → (IsScheduled r e → IsTimely q.time f) → is_over f ≡ true → TakesLoopTurns names true d f a c
unfolding turns_more
ends_with names n r q d e f a b c readiness x y scheduled timely over = let all = turns_more names n r q d e f a b c readiness x.far y scheduled timely in record {
  turns = all.turns;
  last = q;
  does = all.does;
  are = all.are;
  whole = all.whole;
  count = λ is. absurd (true_false is);
  ends = λ is. (x.far.turns, record { trace = y.does.trace; schedule = q; server = f; readiness = readiness }, refl, x.going, over);
}
