-- What is kept of a connection is less than a head.
use Rattle.std.proofs.Common.{◌≡◌, ◌++◌, ℕ, List, [], ◌∷◌, Option, Some, None, Ok, Err, refl, ap, sym, subst, ◌∙◌, Bool, true, false, inl, inr}
use Rattle.vp_hub.specs.declared.event.Event.{Event}
use Rattle.vp_hub.specs.Pages.{Streams}
use Rattle.vp_hub.specs.declared.connection.ConnectionState.{ConnectionState}
use Rattle.vp_hub.specs.declared.event.HubFault.TheVariants.{Failed}
use Rattle.vp_hub.specs.Hub.{Chosen, Outcome, HubState, IsStep, Gets, Serves, new_connection_state}
use Rattle.vp_hub.specs.Heads.{IsPartial, AnswersHeads, gone, KeepsPartial, AllKeepPartial}
use Rattle.vp_hub.specs.View.{IsRun, Seen, Fed, Over, Opened, Got, Gone, Lost, ConnectionView, connection_view, See, AsksAgain, Leads, open_again, removed_connection, closed_by_refusal, told, seen_events}
use Rattle.vp_hub.proofs.Cutting.{cut_into_heads, no_bytes_yet}
use Rattle.vp_hub.proofs.Isolation.{follows}

pub not_gone : (v : ConnectionState × List ℕ) (o : List ℕ) → v ≡ (gone, o) → v.0.closed ≡ false → ⊥
not_gone v o e h = differ (sym (ap (λ (x : ConnectionState × List ℕ). x.0.closed) e) ∙ h)
  where
    differ : true ≡ false → ⊥
    differ h = cc

pub answers_partial : (ss : Streams) (hs : List (List ℕ)) (bytes : List ℕ) (v : ConnectionState × List ℕ) → AnswersHeads ss hs bytes v → v.0.closed ≡ false → IsPartial v.0.pending
answers_partial ss [] bytes v (inl a) h = subst (λ (x : ConnectionState × List ℕ). IsPartial x.0.pending) (sym a.1) a.0
answers_partial ss [] bytes v (inr a) h = absurd (not_gone v _ a.4 h)
answers_partial ss (x ∷ hs) bytes v (rest, reply, is, e, inl a) h = absurd (not_gone v reply a.2 h)
answers_partial ss (x ∷ hs) bytes v (rest, reply, is, e, inr a) h =
    subst (λ (x : ConnectionState × List ℕ). IsPartial x.0.pending) (sym a.3)
    (answers_partial ss hs rest a.1 a.2 (sym (ap (λ (x : ConnectionState × List ℕ). x.0.closed) a.3) ∙ h))

gets_partial : (ss : Streams) (piece : List ℕ) (state_of_connection : ConnectionState) (g : ConnectionState × Outcome) → (state_of_connection.closed ≡ false → IsPartial state_of_connection.pending) → Gets ss piece state_of_connection g → g.0.closed ≡ false → IsPartial g.0.pending
gets_partial ss piece state_of_connection g part = by_closed state_of_connection.closed refl
  where
    by_closed : (t : Bool) → state_of_connection.closed ≡ t
        → Chosen t (g ≡ (state_of_connection, Err Failed)) ((w : ConnectionState × List ℕ) × Serves ss piece (state_of_connection, []) w × (g ≡ (w.0, Ok (record { bytes = w.1; close = w.0.closed }))))
        → g.0.closed ≡ false → IsPartial g.0.pending
    by_closed true c h o = subst (λ (x : ConnectionState × Outcome). IsPartial x.0.pending) (sym h) (part (sym (ap (λ (x : ConnectionState × Outcome). x.0.closed) h) ∙ o))
    by_closed false c h o =
        let fresh : ◌≡◌ {A = ConnectionState} state_of_connection (record { pending = state_of_connection.pending; closed = false }) = ap (λ t. record { pending = state_of_connection.pending; closed = t }) c in
        let a = cut_into_heads ss state_of_connection.pending piece h.0 (part c) (subst (λ l. Serves ss piece (l, []) h.0) fresh h.1) in
        subst (λ (x : ConnectionState × Outcome). IsPartial x.0.pending) (sym h.2)
        (answers_partial ss a.0 (state_of_connection.pending ++ piece) h.0 a.1 (sym (ap (λ (x : ConnectionState × Outcome). x.0.closed) h.2) ∙ o))

asks_partial : (ss : Streams) (piece : List ℕ) (l : Option ConnectionState) (r : Option ConnectionState × Outcome) → KeepsPartial l → AsksAgain ss piece l r → KeepsPartial r.0
asks_partial ss piece None r k h state_of_connection e o = absurd (none_some (sym (ap (λ (x : Option ConnectionState × Outcome). x.0) h) ∙ e))
  where
    none_some : None ≡ Some state_of_connection → ⊥
    none_some e = cc
asks_partial ss piece (Some old) r k h state_of_connection e o =
    let same : h.0.0 ≡ state_of_connection = some_same h.0.0 state_of_connection (sym (ap (λ (x : Option ConnectionState × Outcome). x.0) h.2) ∙ e) in
    subst (λ x. IsPartial x.pending) same (gets_partial ss piece old h.0 (k old refl) h.1 (ap (λ x. x.closed) same ∙ o))
  where
    some_same : (a b : ConnectionState) → Some a ≡ Some b → a ≡ b
    some_same a b e = cc

again_partial : (l : Option ConnectionState) → KeepsPartial l → KeepsPartial (open_again l).0
again_partial None k state_of_connection e o = subst (λ x. IsPartial x.pending) (same e) no_bytes_yet
  where
    same : Some new_connection_state ≡ Some state_of_connection → new_connection_state ≡ state_of_connection
    same e = cc
again_partial (Some l) k state_of_connection e o = k state_of_connection e o

go_partial : (l : Option ConnectionState) → KeepsPartial (removed_connection l).0
go_partial None state_of_connection e o = cc
go_partial (Some l) state_of_connection e o = cc

lose_partial : (l : Option ConnectionState) → KeepsPartial (closed_by_refusal l)
lose_partial None state_of_connection e o = cc
lose_partial (Some l) state_of_connection e o = cc

abbrev pub Kept : ConnectionView → Type 0
Kept v = KeepsPartial v.state_of_connection

see_partial : (e : Seen) (v : ConnectionView) (r : ConnectionView × Outcome) → Kept v → See e v r → Kept r.0
see_partial (Fed name piece) v r k h = subst (λ (x : ConnectionView × Outcome). Kept x.0) (sym h) k
see_partial (Over name) v r k h = subst (λ (x : ConnectionView × Outcome). Kept x.0) (sym h) k
see_partial Opened v r k h = subst (λ (x : ConnectionView × Outcome). Kept x.0) (sym h) (again_partial v.state_of_connection k)
see_partial (Got piece) v r k h = asks_partial v.streams piece v.state_of_connection (r.0.state_of_connection, r.1) k h.0
see_partial Gone v r k h = subst (λ (x : ConnectionView × Outcome). Kept x.0) (sym h) (go_partial v.state_of_connection)
see_partial Lost v r k h = subst (λ (x : ConnectionView × Outcome). Kept x.0) (sym h) (lose_partial v.state_of_connection)

leads_partial : (vs : List Seen) (a b : ConnectionView) (os : List Outcome) → Leads vs a os b → Kept a → Kept b
leads_partial [] a b [] h k = subst Kept (sym h) k
leads_partial (e ∷ vs) a b (o ∷ os) h k = leads_partial vs h.0 b os h.2 (see_partial e a (h.0, o) k h.1)
leads_partial [] a b (o ∷ os) h k = absurd h
leads_partial (e ∷ vs) a b [] h k = absurd h

pub step_partial : (old new : HubState) (e : Event) (o : Outcome) → IsStep old e o new → AllKeepPartial old → AllKeepPartial new
step_partial old new e o step k c = leads_partial (seen_events c e o) (connection_view c old) (connection_view c new) (told (seen_events c e o) o) (follows c old new e o step) (k c)

pub run_partial : (es : List Event) (os : List Outcome) (old new : HubState) → IsRun old es os new → AllKeepPartial old → AllKeepPartial new
run_partial [] [] old new h k = subst AllKeepPartial (sym h) k
run_partial (e ∷ es) (o ∷ os) old new h k = run_partial es os h.0 new h.2 (step_partial old h.0 e o h.1 k)
run_partial [] (o ∷ os) old new h k = absurd h
run_partial (e ∷ es) [] old new h k = absurd h
