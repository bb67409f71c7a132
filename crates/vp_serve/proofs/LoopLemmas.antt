-- The calls of the server as transitions.
use Rattle.std.proofs.Common.{◌≡◌, ◌≢◌, ◌∙◌, ◌++◌, ◌∷◌, [], ℕ, Bool, true, false, List, Some, ap, sym, subst, take, drop, length, option_map}
use Rattle.std.specs.Prelude.{slice_set, slice_index_or}
use Rattle.std.proofs.lemmas.List.{take-append-drop}
use Rattle.vp_hub.specs.declared.event.Event.TheVariants.{Bytes}
use Rattle.vp_hub.specs.Hub.{Outcome, HubState, IsStep}
use Rattle.vp_serve.specs.declared.connection.NextAction.{NextAction}
use Rattle.vp_serve.specs.declared.connection.NextAction.TheVariants.{Send, Submit}
use Rattle.vp_hub.specs.Lines.{IsLine}
use Rattle.vp_serve.specs.Connection.{Connection}
use Rattle.vp_serve.specs.Connections.{connection_of, unsent_of, unsent_by, next_action, after_outcome, IsPrefix, IsConnectionPlace}
use Rattle.vp_serve.specs.ServerLoop.{LoopState, Submitted, Sent, IsTransition}

-- this is done next for a connection
abbrev pub IsDue : ℕ → NextAction → LoopState → Type 0
IsDue number n d = option_map next_action (connection_of number d.connections) ≡ Some n

nexts : (number : ℕ) (n : NextAction) (d : LoopState) (t : Connection) → connection_of number d.connections ≡ Some t → IsDue number n d → next_action t ≡ n
nexts number n d t there h = same (next_action t) n (sym (ap (option_map next_action) there) ∙ h)
  where
    same : (a b : NextAction) → Some a ≡ Some b → a ≡ b
    same a b e = cc

-- a connection from which a line is handed in next has bytes to be handed in
unsubmitted_some : (t : Connection) → next_action t ≡ Submit → t.unsubmitted ≢ []
unsubmitted_some t h none = by t.unsent t.closing (sym (ap (λ (l : List ℕ). next_action (record t { unsubmitted = l })) none) ∙ h)
  where
    by : (u : List ℕ) (closing : Bool) → next_action (record t { unsubmitted = []; unsent = u; closing = closing }) ≡ Submit → ⊥
    by [] true e = cc
    by [] false e = cc
    by (x ∷ xs) closing e = cc

pub sends : (number count now place : ℕ) (d : LoopState) (items : List Connection) (t new : Connection) → items ≡ d.connections → IsConnectionPlace number items place
    → t ≡ slice_index_or d.connections place t → IsDue number Send d → new ≡ record t { unsent = drop count t.unsent; last_active = now }
    → IsTransition d (Sent number now (take count (unsent_of number d.connections))) (record d { connections = slice_set d.connections place new })
sends number count now place d items t new same p is due change =
    let q : IsConnectionPlace number d.connections place = subst (λ (l : List Connection). IsConnectionPlace number l place) same p in
    let there : connection_of number d.connections ≡ Some t = q.connection t ∙ ap (λ (x : Connection). Some x) (sym is) in
    let u : Connection = record t { unsent = drop count t.unsent; last_active = now } in (
      t,
      drop count t.unsent,
      there,
      nexts number Send d t there due,
      sym (ap (λ o. take count (unsent_by o) ++ drop count t.unsent) there ∙ take-append-drop count t.unsent),
      ap (λ (x : Connection). record d { connections = slice_set d.connections place x }) change ∙ ap (λ (l : List Connection). record d { connections = l }) (q.set u),
    )

pub submits : (number now place : ℕ) (line : List ℕ) (o : Outcome) (d : LoopState) (hub : HubState) (items : List Connection) (t new : Connection) → items ≡ d.connections
    → IsConnectionPlace number items place → t ≡ slice_index_or d.connections place t → IsDue number Submit d → IsPrefix line t.unsubmitted → IsLine line → (t.unsubmitted ≢ [] → line ≢ [])
    → IsStep d.hub (Bytes number line) o hub → new ≡ after_outcome o (drop (length line) t.unsubmitted) now t
    → IsTransition d (Submitted number now line o) (record d { hub = hub; connections = slice_set d.connections place new })
submits number now place line o d hub items t new same p is due prefix is_line some step change =
    let q : IsConnectionPlace number d.connections place = subst (λ (l : List Connection). IsConnectionPlace number l place) same p in
    let there : connection_of number d.connections ≡ Some t = q.connection t ∙ ap (λ (x : Connection). Some x) (sym is) in
    let rest = drop (length line) t.unsubmitted in (
      t,
      rest,
      there,
      nexts number Submit d t there due,
      sym (ap (λ (p : List ℕ). p ++ rest) prefix.1 ∙ take-append-drop (length line) t.unsubmitted),
      (is_line, some (unsubmitted_some t (nexts number Submit d t there due))),
      step,
      ap (λ (x : Connection). record d { hub = hub; connections = slice_set d.connections place x }) change
          ∙ ap (λ (l : List Connection). record d { hub = hub; connections = l }) (q.set (after_outcome o rest now t)),
    )
