-- Which connections are open in the hub.
use Rattle.std.proofs.Common.{◌≡◌, ◌==◌, ◌++◌, ◌∷◌, ◌∙◌, [], ℕ, List, Bool, true, false, not, Ok, Err, cond, refl, ap, sym, filter}
use Rattle.std.proofs.lemmas.Bool.{eqb-true}
use Rattle.vp_hub.specs.declared.event.Event.{Event}
use Rattle.vp_hub.specs.declared.event.Event.TheVariants.{Feed, End, Open, Bytes, Shut}
use Rattle.vp_hub.specs.Hub.{Outcome, HubState, IsStep, no_bytes}
use Rattle.vp_hub.specs.Standing.{connection_numbers, open_after}
use Rattle.vp_hub.proofs.StandingLemmas.{stand_to_shut}
use Rattle.vp_serve.specs.Connection.{Connection}
use Rattle.vp_serve.specs.Connections.{with_connection, without, new_connection, after_outcome}
use Rattle.vp_serve.specs.ServerLoop.{LoopState, initial, Action, Accepted, Rejected, Received, Submitted, Sent, Closed, Grown, Fed, Ended, Waited, IsTransition, IsTrace}
use Rattle.vp_serve.specs.SameConnections.{numbers_of, SameConnections}
use Rattle.vp_serve.proofs.OneConnection.{number_of}

after : (s new : HubState) (e : Event) (o : Outcome) → IsStep s e o new → connection_numbers new.connections ≡ open_after (connection_numbers s.connections) e o
after s new e o h = stand_to_shut s new (e ∷ []) (o ∷ []) (new, h, refl)

of_push : (t : Connection) (xs : List Connection) → numbers_of (xs ++ t ∷ []) ≡ numbers_of xs ++ t.number ∷ []
of_push t [] = refl
of_push t (x ∷ xs) = ap (λ (ys : List ℕ). x.number ∷ ys) (of_push t xs)

of_with : (c : ℕ) (t : Connection) (xs : List Connection) → (t.number == c) ≡ true → numbers_of (with_connection c t xs) ≡ numbers_of xs
of_with c t [] h = refl
of_with c t (x ∷ xs) h = at (of_with c t xs h) (x.number == c) refl
  where
    at : numbers_of (with_connection c t xs) ≡ numbers_of xs → (b : Bool) → (x.number == c) ≡ b
        → numbers_of (cond b (t ∷ xs) (x ∷ with_connection c t xs)) ≡ x.number ∷ numbers_of xs
    at more true e = ap (λ (n : ℕ). n ∷ numbers_of xs) (eqb-true t.number c h ∙ sym (eqb-true x.number c e))
    at more false e = ap (λ (ys : List ℕ). x.number ∷ ys) more

of_without : (c : ℕ) (xs : List Connection) → numbers_of (without c xs) ≡ filter (λ x. not (x == c)) (numbers_of xs)
of_without c [] = refl
of_without c (x ∷ xs) = at (of_without c xs) (x.number == c)
  where
    at : numbers_of (without c xs) ≡ filter (λ x. not (x == c)) (numbers_of xs) → (b : Bool)
        → numbers_of (cond (not b) (x ∷ without c xs) (without c xs)) ≡ cond (not b) (x.number ∷ filter (λ x. not (x == c)) (numbers_of xs)) (filter (λ x. not (x == c)) (numbers_of xs))
    at more true = more
    at more false = ap (λ (ys : List ℕ). x.number ∷ ys) more

outcome_same : (o : Outcome) (rest : List ℕ) (now : ℕ) (t : Connection) → (after_outcome o rest now t).number ≡ t.number
outcome_same (Ok r) rest now t = refl
outcome_same (Err f) rest now t = refl

-- neither the connections of the hub nor those of the server change
same : (d e : LoopState) → e.hub ≡ d.hub → numbers_of e.connections ≡ numbers_of d.connections → connection_numbers d.hub.connections ≡ numbers_of d.connections
    → connection_numbers e.hub.connections ≡ numbers_of e.connections
same d e h n k = ap (λ (x : HubState). connection_numbers x.connections) h ∙ k ∙ sym n

one : (d e : LoopState) (x : Action) → IsTransition d x e → connection_numbers d.hub.connections ≡ numbers_of d.connections → connection_numbers e.hub.connections ≡ numbers_of e.connections
one d e (Accepted c now) h k =
    after d.hub e.hub (Open c) (Ok no_bytes) h.2 ∙ ap (λ (ys : List ℕ). ys ++ c ∷ []) k ∙ sym (ap (λ (x : LoopState). numbers_of x.connections) h.3 ∙ of_push (new_connection c now) d.connections)
one d e (Rejected c fault) h k = same d e (ap (λ (x : LoopState). x.hub) h.3) (ap (λ (x : LoopState). numbers_of x.connections) h.3) k
one d e (Received c bytes) (t, there, next, small, is) k =
    same d e (ap (λ (x : LoopState). x.hub) is) (ap (λ (x : LoopState). numbers_of x.connections) is ∙ of_with c (record t { unsubmitted = bytes }) d.connections (number_of c t d.connections there)) k
one d e (Submitted c now line o) (t, rest, there, next, unsubmitted, is_line, step, is) k =
    let u = after_outcome o rest now t in
    after d.hub e.hub (Bytes c line) o step ∙ k
    ∙ sym (ap (λ (x : LoopState). numbers_of x.connections) is ∙ of_with c u d.connections (ap (λ (m : ℕ). m == c) (outcome_same o rest now t) ∙ number_of c t d.connections there))
one d e (Sent c now bytes) (t, rest, there, next, unsent, is) k =
    same d e (ap (λ (x : LoopState). x.hub) is) (ap (λ (x : LoopState). numbers_of x.connections) is ∙ of_with c (record t { unsent = rest; last_active = now }) d.connections (number_of c t d.connections there)) k
one d e (Closed c now reason o) (t, there, is_reason, step, is) k =
    after d.hub e.hub (Shut c) o step ∙ ap (λ (ys : List ℕ). filter (λ x. not (x == c)) ys) k ∙ sym (ap (λ (x : LoopState). numbers_of x.connections) is ∙ of_without c d.connections)
one d e (Grown piece) h k = same d e (ap (λ (x : LoopState). x.hub) h.1) (ap (λ (x : LoopState). numbers_of x.connections) h.1) k
one d e (Fed piece o) h k = after d.hub e.hub (Feed piece.name piece.bytes) o h.1 ∙ k ∙ sym (ap (λ (x : LoopState). numbers_of x.connections) h.2)
one d e (Ended name o) h k = after d.hub e.hub (End name) o h.1 ∙ k ∙ sym (ap (λ (x : LoopState). numbers_of x.connections) h.2)
one d e (Waited busy clock) h k = same d e (ap (λ (x : LoopState). x.hub) h.1) (ap (λ (x : LoopState). numbers_of x.connections) h.1) k

along : (d e : LoopState) (xs : List Action) → connection_numbers d.hub.connections ≡ numbers_of d.connections → IsTrace d xs e → connection_numbers e.hub.connections ≡ numbers_of e.connections
along d e [] k h = same d e (ap (λ (x : LoopState). x.hub) h) (ap (λ (x : LoopState). numbers_of x.connections) h) k
along d e (x ∷ xs) k h = along h.0 e xs (one d h.0 x h.1 k) h.2

pub same_connections : SameConnections
same_connections options s xs d none h = along (initial options s) d xs (ap connection_numbers none) h
