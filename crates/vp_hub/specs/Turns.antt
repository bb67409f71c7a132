-- The statement of the law `histories_are_cut`: all bytes of a connection as request heads, each answered at the event
-- that completes it.
use Rattle.std.specs.Prelude.{◌≡◌, false, ℕ, List, [], ◌∷◌, ◌++◌, Option, Some, None, Ok, IfSome}
use Rattle.std.specs.List.{concat}
use Rattle.vp_hub.specs.declared.connection.ConnectionState.{ConnectionState}
use Rattle.vp_hub.specs.Hub.{Chosen, Outcome}
use Rattle.vp_hub.specs.Heads.{AnswersHeads, IsPartial}
use Rattle.vp_hub.specs.View.{Seen, Fed, Over, Opened, Got, Gone, Lost, ConnectionView, See, Leads}

-- the bytes of all pieces
abbrev pub bytes_seen : List Seen → List ℕ
bytes_seen [] = []
bytes_seen (Got piece ∷ es) = piece ++ bytes_seen es
bytes_seen (Fed name piece ∷ es) = bytes_seen es
bytes_seen (Over name ∷ es) = bytes_seen es
bytes_seen (Opened ∷ es) = bytes_seen es
bytes_seen (Gone ∷ es) = bytes_seen es
bytes_seen (Lost ∷ es) = bytes_seen es

-- an open connection with these bytes pending
abbrev pub keeps : List ℕ → ConnectionState
keeps kept = record { pending = kept; closed = false }

-- A connection with these bytes pending sees these events, starting at v. Each piece, after the pending bytes, is split
-- into heads, which are answered at that event with the streams as they are then. `heads` are all of these heads.
-- `rest` is the incomplete head at the end; there is none if a head closed the connection, or if it is gone or lost.
abbrev pub AreCutInTurn : List ℕ → List Seen → ConnectionView → List Outcome → List (List ℕ) → Option (List ℕ) → Type 0
AreCutInTurn kept [] v os heads rest = (heads ≡ []) × (rest ≡ Some kept)
AreCutInTurn kept (e ∷ es) v [] heads rest = ⊥
AreCutInTurn kept (Got piece ∷ es) v (o ∷ os) heads rest =
    (here : List (List ℕ)) × (later : List (List ℕ)) × (w : ConnectionState × List ℕ) × (heads ≡ here ++ later)
    × AnswersHeads v.streams here (kept ++ piece) w × (o ≡ Ok (record { bytes = w.1; close = w.0.closed }))
    × Chosen w.0.closed ((later ≡ []) × (rest ≡ None))
    (AreCutInTurn w.0.pending es (record { streams = v.streams; state_of_connection = Some w.0 }) os later rest)
AreCutInTurn kept (Fed name piece ∷ es) v (o ∷ os) heads rest = (mid : ConnectionView) × See (Fed name piece) v (mid, o)
    × AreCutInTurn kept es mid os heads rest
AreCutInTurn kept (Over name ∷ es) v (o ∷ os) heads rest = (mid : ConnectionView) × See (Over name) v (mid, o)
    × AreCutInTurn kept es mid os heads rest
AreCutInTurn kept (Opened ∷ es) v (o ∷ os) heads rest = (mid : ConnectionView) × See Opened v (mid, o)
    × AreCutInTurn kept es mid os heads rest
AreCutInTurn kept (Gone ∷ es) v (o ∷ os) heads rest = (heads ≡ []) × (rest ≡ None)
AreCutInTurn kept (Lost ∷ es) v (o ∷ os) heads rest = (heads ≡ []) × (rest ≡ None)

-- from its opening on, whatever happens in between, all bytes of a connection are split into request heads, each
-- answered at the event that brings its last byte
abbrev pub HistoriesAreCut : Type 0
HistoriesAreCut = (es : List Seen) (v w : ConnectionView) (os : List Outcome) → Leads es v os w
    → v.state_of_connection ≡ Some (keeps [])
    → (heads : List (List ℕ)) × (rest : Option (List ℕ)) × AreCutInTurn [] es v os heads rest
    × IfSome rest (λ r. IsPartial r × (bytes_seen es ≡ concat heads ++ r))
