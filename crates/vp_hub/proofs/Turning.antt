-- All bytes of a connection are cut in turn.
use Rattle.std.proofs.Common.{◌≡◌, ◌++◌, ℕ, List, [], ◌∷◌, Option, Some, None, Ok, IfSome, refl, ap, sym, subst, ◌∙◌, Bool, true, false, append-nil, append_assoc, inl, inr}
use Rattle.std.specs.List.{concat}
use Rattle.vp_hub.specs.Pages.{Streams}
use Rattle.vp_hub.specs.declared.connection.ConnectionState.{ConnectionState}
use Rattle.vp_hub.specs.Hub.{Chosen, Outcome}
use Rattle.vp_hub.specs.Heads.{AnswersHeads, IsPartial}
use Rattle.vp_hub.specs.View.{Seen, Fed, Over, Opened, Got, Gone, Lost, ConnectionView, AsksAgain, Leads, open_again}
use Rattle.vp_hub.specs.Turns.{AreCutInTurn, HistoriesAreCut, bytes_seen, keeps}
use Rattle.vp_hub.proofs.Cutting.{cut_into_heads, no_bytes_yet}
use Rattle.vp_hub.proofs.CacheLemmas.{answers_partial, not_gone}

concat-append : (xs ys : List (List ℕ)) → concat (xs ++ ys) ≡ concat xs ++ concat ys
concat-append [] ys = refl
concat-append (x ∷ xs) ys = ap (λ l. x ++ l) (concat-append xs ys) ∙ sym (append_assoc x (concat xs) (concat ys))

-- heads that leave it open, and what is kept, are all the bytes
answers_whole : (ss : Streams) (hs : List (List ℕ)) (bytes : List ℕ) (v : ConnectionState × List ℕ) → AnswersHeads ss hs bytes v → v.0.closed ≡ false
    → bytes ≡ concat hs ++ v.0.pending
answers_whole ss [] bytes v (inl a) h = sym (ap (λ (x : ConnectionState × List ℕ). x.0.pending) a.1)
answers_whole ss [] bytes v (inr a) h = absurd (not_gone v _ a.4 h)
answers_whole ss (x ∷ hs) bytes v (rest, reply, is, e, inl a) h = absurd (not_gone v reply a.2 h)
answers_whole ss (x ∷ hs) bytes v (rest, reply, is, e, inr a) h =
    e ∙ (ap (λ r. x ++ r) (answers_whole ss hs rest a.1 a.2 (sym (ap (λ (y : ConnectionState × List ℕ). y.0.closed) a.3) ∙ h)
    ∙ ap (λ (y : ConnectionState × List ℕ). concat hs ++ y.0.pending) (sym a.3)) ∙ sym (append_assoc x (concat hs) v.0.pending))

-- all that is said of a history that begins with these bytes kept
abbrev Cuts : List ℕ → List Seen → ConnectionView → List Outcome → Type 0
Cuts kept es v os = (heads : List (List ℕ)) × (rest : Option (List ℕ)) × AreCutInTurn kept es v os heads rest
    × IfSome rest (λ r. IsPartial r × (kept ++ bytes_seen es ≡ concat heads ++ r))

open_link : (l : ConnectionState) → l.closed ≡ false → l ≡ keeps l.pending
open_link l e = ap (λ b. record { pending = l.pending; closed = b }) e

-- a piece that is cut, and what comes behind it
piece_cut : (kept piece : List ℕ) (es : List Seen) (v : ConnectionView) (o : Outcome) (os : List Outcome) (here : List (List ℕ)) (w : ConnectionState × List ℕ)
    → AnswersHeads v.streams here (kept ++ piece) w → o ≡ Ok (record { bytes = w.1; close = w.0.closed })
    → (w.0.closed ≡ false → Cuts w.0.pending es (record { streams = v.streams; state_of_connection = Some w.0 }) os) → Cuts kept (Got piece ∷ es) v (o ∷ os)
piece_cut kept piece es v o os here w a e later = by_closed w.0.closed refl
  where
    Later : List (List ℕ) → Option (List ℕ) → Type 0
    Later hs rest = AreCutInTurn w.0.pending es (record { streams = v.streams; state_of_connection = Some w.0 }) os hs rest

    nothing : List (List ℕ)
    nothing = []

    no_rest : Option (List ℕ)
    no_rest = None

    ended : w.0.closed ≡ true → Chosen w.0.closed ((nothing ≡ []) × (no_rest ≡ None)) (Later nothing no_rest)
    ended c = subst (λ t. Chosen t ((nothing ≡ []) × (no_rest ≡ None)) (Later nothing no_rest)) (sym c) (refl, refl)

    goes_on : (hs : List (List ℕ)) (rest : Option (List ℕ)) → w.0.closed ≡ false → Later hs rest → Chosen w.0.closed ((hs ≡ []) × (rest ≡ None)) (Later hs rest)
    goes_on hs rest c h = subst (λ t. Chosen t ((hs ≡ []) × (rest ≡ None)) (Later hs rest)) (sym c) h

    by_closed : (t : Bool) → w.0.closed ≡ t → Cuts kept (Got piece ∷ es) v (o ∷ os)
    by_closed true c = (here, None, (here, [], w, sym (append-nil here), a, e, ended c), tt)
    by_closed false c =
        let k = later c in
        (here ++ k.0, k.1, (here, k.0, w, refl, a, e, goes_on k.0 k.1 c k.2), joined k.1 k.0 k.3)
      where
        joined : (rest : Option (List ℕ)) (hs : List (List ℕ)) → IfSome rest (λ r. IsPartial r × (w.0.pending ++ bytes_seen es ≡ concat hs ++ r))
            → IfSome rest (λ r. IsPartial r × (kept ++ (piece ++ bytes_seen es) ≡ concat (here ++ hs) ++ r))
        joined None hs h = tt
        joined (Some r) hs h = (
          h.0,
          sym (append_assoc kept piece (bytes_seen es))
              ∙ (ap (λ b. b ++ bytes_seen es) (answers_whole v.streams here (kept ++ piece) w a c)
              ∙ (append_assoc (concat here) w.0.pending (bytes_seen es)
              ∙ (ap (λ b. concat here ++ b) h.1
              ∙ (sym (append_assoc (concat here) (concat hs) r)
              ∙ ap (λ b. b ++ r) (sym (concat-append here hs)))))),
        )

-- one more event that leaves what is kept
histories : (es : List Seen) (v w : ConnectionView) (os : List Outcome) (kept : List ℕ) → Leads es v os w → v.state_of_connection ≡ Some (keeps kept) → IsPartial kept
    → Cuts kept es v os
histories [] v w [] kept h l p = ([], Some kept, (refl, refl), (p, append-nil kept))
histories [] v w (o ∷ os) kept h l p = absurd h
histories (e ∷ es) v w [] kept h l p = absurd h
histories (Got piece ∷ es) v w (o ∷ os) kept h l p =
    let asked : AsksAgain v.streams piece (Some (keeps kept)) (h.0.state_of_connection, o) = subst (λ x. AsksAgain v.streams piece x (h.0.state_of_connection, o)) l h.1.0 in
    let g = asked.0 in
    let served = asked.1 in
    let cut = cut_into_heads v.streams kept piece served.0 p served.1 in
    let now : h.0 ≡ record { streams = v.streams; state_of_connection = Some served.0.0 } =
    sight_is h.0 v.streams served.0.0 h.1.1 (ap (λ (x : Option ConnectionState × Outcome). x.0) asked.2 ∙ ap (λ (x : ConnectionState × Outcome). Some x.0) served.2) in
    piece_cut kept piece es v o os cut.0 served.0 cut.1 (ap (λ (x : Option ConnectionState × Outcome). x.1) asked.2 ∙ ap (λ (x : ConnectionState × Outcome). x.1) served.2)
    (λ c. histories es (record { streams = v.streams; state_of_connection = Some served.0.0 }) w os served.0.0.pending (subst (λ x. Leads es x os w) now h.2)
    (ap Some (open_link served.0.0 c)) (answers_partial v.streams cut.0 (kept ++ piece) served.0 cut.1 c))
  where
    sight_is : (s : ConnectionView) (ss : Streams) (state_of_connection : ConnectionState) → s.streams ≡ ss → s.state_of_connection ≡ Some state_of_connection → ◌≡◌ {A = ConnectionView} s (record { streams = ss; state_of_connection = Some state_of_connection })
    sight_is s ss state_of_connection a b = ap (λ x. record { streams = x; state_of_connection = s.state_of_connection }) a ∙ ap (λ x. record { streams = ss; state_of_connection = x }) b
histories (Fed name piece ∷ es) v w (o ∷ os) kept h l p =
    let k = histories es h.0 w os kept h.2 (ap (λ (x : ConnectionView × Outcome). x.0.state_of_connection) h.1 ∙ l) p in (k.0, k.1, (h.0, h.1, k.2), k.3)
histories (Over name ∷ es) v w (o ∷ os) kept h l p =
    let k = histories es h.0 w os kept h.2 (ap (λ (x : ConnectionView × Outcome). x.0.state_of_connection) h.1 ∙ l) p in (k.0, k.1, (h.0, h.1, k.2), k.3)
histories (Opened ∷ es) v w (o ∷ os) kept h l p =
    let k = histories es h.0 w os kept h.2
    (ap (λ (x : ConnectionView × Outcome). x.0.state_of_connection) h.1 ∙ ap (λ x. (open_again x).0) l) p in (k.0, k.1, (h.0, h.1, k.2), k.3)
histories (Gone ∷ es) v w (o ∷ os) kept h l p = ([], None, (refl, refl), tt)
histories (Lost ∷ es) v w (o ∷ os) kept h l p = ([], None, (refl, refl), tt)

pub histories_are_cut : HistoriesAreCut
histories_are_cut es v w os h l = histories es v w os [] h l no_bytes_yet
