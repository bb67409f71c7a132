-- Which connections stand after a run.
use Rattle.std.proofs.Common.{◌≡◌, ◌==◌, ◌≤◌, ◌++◌, ◌⊎◌, ◌↔◌, ℕ, List, [], ◌∷◌, Option, Some, None, Ok, Err, cond, not, refl, ap, sym, subst, ◌∙◌, arith, Bool, true, false, nat_lt, length, filter, is_some, inl, inr}
use Rattle.std.specs.Prelude.{IsOk}
use Rattle.std.proofs.lemmas.Bool.{eqb-true}
use Rattle.std.proofs.lemmas.Bool.Decides.{nat_tests}
use Rattle.std.proofs.lemmas.List.{length-map}
use Rattle.vp_hub.specs.declared.event.Event.{Event}
use Rattle.vp_hub.specs.declared.event.Event.TheVariants.{Feed, End, Open, Bytes, Shut}
use Rattle.vp_hub.specs.declared.event.HubFault.TheVariants.{Memory, TooMany, AlreadyOpen}
use Rattle.vp_hub.specs.declared.connection.ConnectionState.{ConnectionState}
use Rattle.vp_hub.specs.declared.connection.Connection.{Connection}
use Rattle.vp_hub.specs.Pages.{Streams}
use Rattle.vp_hub.specs.Hub.{Outcome, HubState, IsStep, HubStep, after_memory, IsFine, Asks, opened, shut, no_bytes, new_connection_state, connection_state_of, with_connection_state, without_connection}
use Rattle.vp_hub.specs.View.{is_memory}
use Rattle.vp_hub.specs.Standing.{connection_numbers, open_after, standing, stands, IsFull, StandsToShut, IsTooManyByHistory}
use Rattle.vp_hub.proofs.Isolation.{memory_is, memory_isn't}

numbers-push : (c : ℕ) (state_of_connection : ConnectionState) (xs : List Connection) → connection_numbers (xs ++ record { number = c; state_of_connection = state_of_connection } ∷ []) ≡ connection_numbers xs ++ c ∷ []
numbers-push c state_of_connection [] = refl
numbers-push c state_of_connection (x ∷ xs) = ap (λ (ys : List ℕ). x.number ∷ ys) (numbers-push c state_of_connection xs)

numbers-with_link : (c : ℕ) (state_of_connection : ConnectionState) (xs : List Connection) → connection_numbers (with_connection_state c state_of_connection xs) ≡ connection_numbers xs
numbers-with_link c state_of_connection [] = refl
numbers-with_link c state_of_connection (x ∷ xs) = at (numbers-with_link c state_of_connection xs) (x.number == c) refl
  where
    at : connection_numbers (with_connection_state c state_of_connection xs) ≡ connection_numbers xs → (t : Bool) → (x.number == c) ≡ t
        → connection_numbers (cond t (record { number = c; state_of_connection = state_of_connection } ∷ xs) (x ∷ with_connection_state c state_of_connection xs)) ≡ x.number ∷ connection_numbers xs
    at more true e = ap (λ n. n ∷ connection_numbers xs) (sym (eqb-true x.number c e))
    at more false e = ap (λ (ys : List ℕ). x.number ∷ ys) more

numbers-without : (c : ℕ) (xs : List Connection) → connection_numbers (without_connection c xs) ≡ filter (λ x. not (x == c)) (connection_numbers xs)
numbers-without c [] = refl
numbers-without c (x ∷ xs) = at (numbers-without c xs) (x.number == c)
  where
    at : connection_numbers (without_connection c xs) ≡ filter (λ x. not (x == c)) (connection_numbers xs) → (t : Bool)
        → connection_numbers (cond (not t) (x ∷ without_connection c xs) (without_connection c xs)) ≡ cond (not t) (x.number ∷ filter (λ x. not (x == c)) (connection_numbers xs)) (filter (λ x. not (x == c)) (connection_numbers xs))
    at more true = more
    at more false = ap (λ (ys : List ℕ). x.number ∷ ys) more

none_without : (c : ℕ) (xs : List Connection) → connection_state_of c xs ≡ None → without_connection c xs ≡ xs
none_without c [] h = refl
none_without c (x ∷ xs) h = at (none_without c xs) (x.number == c) h
  where
    never : (l : ConnectionState) → Some l ≡ None → ⊥
    never l e = cc

    at : (connection_state_of c xs ≡ None → without_connection c xs ≡ xs) → (t : Bool) → cond t (Some x.state_of_connection) (connection_state_of c xs) ≡ None
        → cond (not t) (x ∷ without_connection c xs) (without_connection c xs) ≡ x ∷ xs
    at more true h = absurd (never x.state_of_connection h)
    at more false h = ap (λ (ys : List Connection). x ∷ ys) (more h)

stands_by_link : (c : ℕ) (xs : List Connection) → stands c (connection_numbers xs) ≡ is_some (connection_state_of c xs)
stands_by_link c [] = refl
stands_by_link c (x ∷ xs) = grind (arith, nat_tests, stands_by_link c xs)

-- ---- one event

abbrev pub conns_of : HubState × Outcome → List ℕ
conns_of r = connection_numbers r.0.connections

after_open : (c : ℕ) (s new : HubState) (o : Outcome) (l : Option ConnectionState) → ◌≡◌ {A = List Connection × Outcome} (new.connections, o) (opened c s.connections l) → connection_numbers new.connections ≡ open_after (connection_numbers s.connections) (Open c) o
after_open c s new o (Some state_of_connection) h =
    ap (λ (x : List Connection × Outcome). connection_numbers x.0) h
    ∙ ap (λ (p : Outcome). open_after (connection_numbers s.connections) (Open c) p) (sym (ap (λ (x : List Connection × Outcome). x.1) h))
after_open c s new o None h = at (nat_lt (length s.connections) 64) h
  where
    at : (t : Bool) → ◌≡◌ {A = List Connection × Outcome} (new.connections, o) (cond t (s.connections ++ record { number = c; state_of_connection = new_connection_state } ∷ [], Ok no_bytes) (s.connections, Err TooMany))
        → connection_numbers new.connections ≡ open_after (connection_numbers s.connections) (Open c) o
    at true h = ap (λ (x : List Connection × Outcome). connection_numbers x.0) h ∙ (numbers-push c new_connection_state s.connections
        ∙ ap (λ (p : Outcome). open_after (connection_numbers s.connections) (Open c) p) (sym (ap (λ (x : List Connection × Outcome). x.1) h)))
    at false h = ap (λ (x : List Connection × Outcome). connection_numbers x.0) h
        ∙ ap (λ (p : Outcome). open_after (connection_numbers s.connections) (Open c) p) (sym (ap (λ (x : List Connection × Outcome). x.1) h))

after_bytes : (ss : Streams) (c : ℕ) (piece : List ℕ) (s new : HubState) (o : Outcome) (l : Option ConnectionState) → Asks ss c piece s.connections l (new.connections, o) → connection_numbers new.connections ≡ connection_numbers s.connections
after_bytes ss c piece s new o None h = ap (λ (x : List Connection × Outcome). connection_numbers x.0) h
after_bytes ss c piece s new o (Some state_of_connection) h = ap (λ (x : List Connection × Outcome). connection_numbers x.0) h.2 ∙ numbers-with_link c h.0.0 s.connections

after_shut : (c : ℕ) (s new : HubState) (o : Outcome) (l : Option ConnectionState) → connection_state_of c s.connections ≡ l → ◌≡◌ {A = List Connection × Outcome} (new.connections, o) (shut c s.connections l)
    → connection_numbers new.connections ≡ filter (λ x. not (x == c)) (connection_numbers s.connections)
after_shut c s new o None there h = ap (λ (x : List Connection × Outcome). connection_numbers x.0) h
    ∙ (ap connection_numbers (sym (none_without c s.connections there)) ∙ numbers-without c s.connections)
after_shut c s new o (Some state_of_connection) there h = ap (λ (x : List Connection × Outcome). connection_numbers x.0) h ∙ numbers-without c s.connections

at_step : (e : Event) (s new : HubState) (o : Outcome) → HubStep e s (new, o) → connection_numbers new.connections ≡ open_after (connection_numbers s.connections) e o
at_step (Feed name piece) s new o h = ap conns_of h
at_step (End name) s new o h = ap conns_of h
at_step (Open c) s new o h = after_open c s new o (connection_state_of c s.connections) (ap (λ (r : HubState × Outcome). (r.0.connections, r.1)) h)
at_step (Bytes c piece) s new o h = after_bytes s.streams c piece s new o (connection_state_of c s.connections) h.0
at_step (Shut c) s new o h = after_shut c s new o (connection_state_of c s.connections) refl (ap (λ (r : HubState × Outcome). (r.0.connections, r.1)) h)

at_memory : (e : Event) (s : HubState) → IsFine e s → connection_numbers (after_memory e s).connections ≡ open_after (connection_numbers s.connections) e (Err Memory)
at_memory (Feed name piece) s h = refl
at_memory (End name) s h = absurd h
at_memory (Open c) s h = refl
at_memory (Bytes c piece) s h = numbers-with_link c (record { pending = []; closed = true }) s.connections
at_memory (Shut c) s h = absurd h

stand_after : (s new : HubState) (e : Event) (o : Outcome) → IsStep s e o new → connection_numbers new.connections ≡ open_after (connection_numbers s.connections) e o
stand_after s new e o step = by_memory (is_memory o) refl
  where
    by_memory : (t : Bool) → is_memory o ≡ t → connection_numbers new.connections ≡ open_after (connection_numbers s.connections) e o
    by_memory true h =
        let r = step.0 (memory_is o h) in
        ap (λ (x : HubState). connection_numbers x.connections) r.after ∙ (at_memory e s r.fine
        ∙ ap (λ (p : Outcome). open_after (connection_numbers s.connections) e p) (sym (memory_is o h)))
    by_memory false h = at_step e s new o (step.1 (memory_isn't o h))

-- ---- a run

pub stand_to_shut : StandsToShut
stand_to_shut s new [] [] run = ap (λ (x : HubState). connection_numbers x.connections) run
stand_to_shut s new (e ∷ es) (o ∷ os) run =
    stand_to_shut run.0 new es os run.2 ∙ ap (λ cs. standing cs es os) (stand_after s run.0 e o run.1)
stand_to_shut s new [] (o ∷ os) run = absurd run
stand_to_shut s new (e ∷ es) [] run = absurd run

-- an opening's outcome, but where memory is refused, by what is kept of the connection
outcome_is : (s new : HubState) (c : ℕ) (o : Outcome) → IsStep s (Open c) o new
    → ((o ≡ Err Memory) × IsOk (opened c s.connections (connection_state_of c s.connections)).1) ⊎ (o ≡ (opened c s.connections (connection_state_of c s.connections)).1)
outcome_is s new c o step = by_memory (is_memory o) refl
  where
    by_memory : (t : Bool) → is_memory o ≡ t → ((o ≡ Err Memory) × IsOk (opened c s.connections (connection_state_of c s.connections)).1) ⊎ (o ≡ (opened c s.connections (connection_state_of c s.connections)).1)
    by_memory true h = inl (memory_is o h, (step.0 (memory_is o h)).fine)
    by_memory false h = inr (ap (λ (r : HubState × Outcome). r.1) (step.1 (memory_isn't o h)))

not_fine : false ≡ true → ⊥
not_fine e = cc

full_by : (c : ℕ) (xs : List Connection) (o : Outcome) (l : Option ConnectionState) → (((o ≡ Err Memory) × IsOk (opened c xs l).1) ⊎ (o ≡ (opened c xs l).1))
    → (o ≡ Err TooMany) ↔ ((is_some l ≡ false) × (64 ≤ length xs))
full_by c xs o (Some state_of_connection) (inl h) = absurd (not_fine h.1)
full_by c xs o (Some state_of_connection) (inr h) = (λ e. absurd (differ (sym h ∙ e)), λ k. absurd (wrong k.0))
  where
    differ : ◌≡◌ {A = Outcome} (Err AlreadyOpen) (Err TooMany) → ⊥
    differ e = cc

    wrong : true ≡ false → ⊥
    wrong e = cc
full_by c xs o None h = at (nat_lt (length xs) 64) refl h
  where
    never : (f : Outcome) → f ≡ Err Memory → f ≡ Err TooMany → ⊥
    never f a b = two (sym a ∙ b)
      where
        two : ◌≡◌ {A = Outcome} (Err Memory) (Err TooMany) → ⊥
        two e = cc

    fine : (f : Outcome) → f ≡ Ok no_bytes → f ≡ Err TooMany → ⊥
    fine f a b = two (sym a ∙ b)
      where
        two : ◌≡◌ {A = Outcome} (Ok no_bytes) (Err TooMany) → ⊥
        two e = cc

    at : (t : Bool) → nat_lt (length xs) 64 ≡ t → (((o ≡ Err Memory) × IsOk (cond {A = List Connection × Outcome} t (xs ++ record { number = c; state_of_connection = new_connection_state } ∷ [], Ok no_bytes) (xs, Err TooMany)).1) ⊎ (o ≡ (cond {A = List Connection × Outcome} t (xs ++ record { number = c; state_of_connection = new_connection_state } ∷ [], Ok no_bytes) (xs, Err TooMany)).1))
        → (o ≡ Err TooMany) ↔ ((false ≡ false) × (64 ≤ length xs))
    at true l (inl h) = (λ e. absurd (never o h.0 e), λ k. absurd (grind (arith, nat_tests, l, k.1)))
    at true l (inr h) = (λ e. absurd (fine o h e), λ k. absurd (grind (arith, nat_tests, l, k.1)))
    at false l (inl h) = absurd (not_fine h.1)
    at false l (inr h) = (λ e. (refl, grind (arith, nat_tests, l)), λ k. h)

pub too_many_by_history : IsTooManyByHistory
too_many_by_history s mid new es os c o run step =
    let P : List ℕ → Type 0 = λ cs. (o ≡ Err TooMany) ↔ IsFull c cs in
    let Q : Bool → ℕ → Type 0 = λ b n. (o ≡ Err TooMany) ↔ ((b ≡ false) × (64 ≤ n)) in
    subst P (stand_to_shut s mid es os run)
    (subst (λ b. Q b (length (connection_numbers mid.connections))) (sym (stands_by_link c mid.connections))
    (subst (λ n. Q (is_some (connection_state_of c mid.connections)) n) (sym (length-map mid.connections (λ (x : Connection). x.number)))
    (full_by c mid.connections o (connection_state_of c mid.connections) (outcome_is mid new c o step))))
