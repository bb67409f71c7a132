-- What an action is, by its transfers, by the events of the hub and by its replies.
use Rattle.std.proofs.Common.{◌≡◌, ◌≢◌, ◌==◌, ◌≤◌, ◌⊎◌, ◌||◌, ◌&&◌, ◌++◌, ◌∷◌, ◌∙◌, [], ℕ, List, Bool, true, false, not, Ok, Err, cond, refl, ap, sym, arith, append-nil, flat_map, inl, inr}
use Rattle.std.proofs.lemmas.Bool.Decides.{nat_tests}
use Rattle.std.proofs.lemmas.List.Concat.{flat_map-append}
use Rattle.vp_hub.specs.declared.event.Event.{Event}
use Rattle.vp_hub.specs.declared.event.Event.TheVariants.{Feed, End, Open, Bytes, Shut}
use Rattle.vp_hub.specs.declared.event.HubFault.{HubFault}
use Rattle.vp_hub.specs.declared.event.HubFault.TheVariants as fault
use Rattle.vp_hub.specs.Hub.{Outcome, IsStep}
use Rattle.vp_serve.specs.declared.reason.CloseReason.{CloseReason}
use Rattle.vp_serve.specs.declared.reason.CloseReason.TheVariants.{Finished, PeerEnded, IdleTimeout, OutOfMemory, TransferFailed, HubRefused}
use Rattle.vp_serve.specs.declared.connection.NextAction.TheVariants.{Close}
use Rattle.vp_serve.specs.Connections.{is_nil, next_action}
use Rattle.vp_serve.specs.Reasons.{is_abort}
use Rattle.vp_serve.specs.Laws.{replied_in, replied_to, written_to, submitted_replies, has_ended, ends_in}
use Rattle.vp_serve.specs.ServerLoop.{LoopState, Action, Accepted, Rejected, Received, Submitted, Sent, Closed, Grown, Fed, Ended, Waited, events_of}
use Rattle.vp_serve.specs.Transport.{transfers_of, ended_names}
use Rattle.vp_serve.specs.Turns.{reply_count, replies_in, replies_made}
use Rattle.vp_serve.specs.ActionLaws.{ActionsAreOfConnections, RepliesAreCounted, NothingIsLost, NoEndIsReported, RejectedAreRefused, ClosingsAreReported, PeersFail, FinishedAreClosed}
use Rattle.vp_serve.proofs.OneConnection.{true_false}
use Rattle.vp_serve.proofs.Performing.{zero_or_one}
use Rattle.vp_serve.proofs.Served.{served}

-- ---- of which connection an action is

one_of : (b : Bool) → (b ≡ (b || false) || false) × (b ≡ true → b && true ≡ true)
one_of true = (refl, λ h. refl)
one_of false = (refl, λ h. h)

two_of : (b : Bool) → (b ≡ (b || (b || false)) || false) × (b ≡ true → b && (b && true) ≡ true)
two_of true = (refl, λ h. refl)
two_of false = (refl, λ h. h)

line_of : (b : Bool) → (b ≡ false || (b || false)) × (b ≡ true → true ≡ true)
line_of true = (refl, λ h. refl)
line_of false = (refl, λ h. refl)

none_of : (l : Bool) → false ≡ true → l ≡ true
none_of l h = absurd (true_false (sym h))

pub of_connections : ActionsAreOfConnections
of_connections c (Accepted d now) = one_of (d == c)
of_connections c (Rejected d fault) = two_of (d == c)
of_connections c (Received d bytes) = one_of (d == c)
of_connections c (Submitted d now line o) = line_of (d == c)
of_connections c (Sent d now bytes) = one_of (d == c)
of_connections c (Closed d now Finished o) = one_of (d == c)
of_connections c (Closed d now PeerEnded o) = two_of (d == c)
of_connections c (Closed d now IdleTimeout o) = one_of (d == c)
of_connections c (Closed d now OutOfMemory o) = one_of (d == c)
of_connections c (Closed d now TransferFailed o) = two_of (d == c)
of_connections c (Closed d now HubRefused o) = one_of (d == c)
of_connections c (Grown piece) = (refl, none_of false)
of_connections c (Fed piece o) = (refl, none_of true)
of_connections c (Ended name o) = (refl, none_of true)
of_connections c (Waited busy clock) = (refl, none_of false)

-- ---- replies

nil_is : (l : List ℕ) → is_nil l ≡ true → l ≡ []
nil_is [] h = refl
nil_is (b ∷ bs) h = absurd (true_false (sym h))

no_bytes : (o : Outcome) → reply_count o ≡ 0 → submitted_replies o ≡ []
no_bytes (Err f) h = refl
no_bytes (Ok r) h = at (is_nil r.bytes) refl h
  where
    at : (b : Bool) → is_nil r.bytes ≡ b → ◌≡◌ {A = ℕ} (cond b 0 1) 0 → r.bytes ≡ []
    at true e k = nil_is r.bytes e
    at false e k = absurd (omega (arith, k))

none_in : (c : ℕ) (x : Action) → replies_in c x ≡ 0 → replied_in c x ≡ []
none_in c (Accepted d now) h = refl
none_in c (Rejected d fault) h = refl
none_in c (Received d bytes) h = refl
none_in c (Submitted d now line o) h = at (d == c) h
  where
    at : (b : Bool) → cond b (reply_count o) 0 ≡ 0 → cond b (submitted_replies o) [] ≡ []
    at true k = no_bytes o k
    at false k = refl
none_in c (Sent d now bytes) h = refl
none_in c (Closed d now reason o) h = refl
none_in c (Grown piece) h = refl
none_in c (Fed piece o) h = refl
none_in c (Ended name o) h = refl
none_in c (Waited busy clock) h = refl

none_to : (c : ℕ) (xs : List Action) → replies_made c xs ≡ 0 → replied_to c xs ≡ []
none_to c [] h = refl
none_to c (x ∷ xs) h =
    ap (λ (l : List ℕ). l ++ replied_to c xs) (none_in c x (omega (arith, h))) ∙ none_to c xs (omega (arith, h))

pub counted : RepliesAreCounted
counted c [] h = inl refl
counted c (x ∷ xs) h = at (zero_or_one c x) (counted c xs)
  where
    more : replied_in c x ≡ [] → (replied_to c xs ≡ []) ⊎ ((earlier later : List Action) × (a : Action) × (xs ≡ earlier ++ a ∷ later) × (replied_to c xs ≡ replied_in c a))
        → (replied_to c (x ∷ xs) ≡ []) ⊎ ((earlier later : List Action) × (a : Action) × (x ∷ xs ≡ earlier ++ a ∷ later) × (replied_to c (x ∷ xs) ≡ replied_in c a))
    more none (inl is) = inl (ap (λ (l : List ℕ). l ++ replied_to c xs) none ∙ is)
    more none (inr (earlier, later, a, is, e)) =
        inr (x ∷ earlier, later, a, ap (λ (l : List Action). x ∷ l) is, ap (λ (l : List ℕ). l ++ replied_to c xs) none ∙ e)

    at : (replies_in c x ≡ 0) ⊎ (replies_in c x ≡ 1)
        → (replies_made c xs ≤ 1 → (replied_to c xs ≡ []) ⊎ ((earlier later : List Action) × (a : Action) × (xs ≡ earlier ++ a ∷ later) × (replied_to c xs ≡ replied_in c a)))
        → (replied_to c (x ∷ xs) ≡ []) ⊎ ((earlier later : List Action) × (a : Action) × (x ∷ xs ≡ earlier ++ a ∷ later) × (replied_to c (x ∷ xs) ≡ replied_in c a))
    at (inl none) later = more (none_in c x none) (later (omega (arith, h, none)))
    at (inr one) later =
        inr ([], xs, x, refl, ap (λ (l : List ℕ). replied_in c x ++ l) (none_to c xs (omega (arith, h, one))) ∙ append-nil (replied_in c x))

-- ---- a connection that was closed

keeps_all : (reason : CloseReason) → reason ≢ IdleTimeout → reason ≢ TransferFailed → is_abort reason ≡ false
keeps_all Finished a b = refl
keeps_all PeerEnded a b = refl
keeps_all IdleTimeout a b = absurd (a refl)
keeps_all OutOfMemory a b = refl
keeps_all TransferFailed a b = absurd (b refl)
keeps_all HubRefused a b = refl

ended_within : (c : ℕ) (xs : List Action) (a : Action) (ys : List Action) → ends_in c a ≡ true → has_ended c (xs ++ a ∷ ys) ≡ true
ended_within c [] a ys h = ap (λ t. t || has_ended c ys) h
ended_within c (x ∷ xs) a ys h = ap (λ t. ends_in c x || t) (ended_within c xs a ys h) ∙ or_true (ends_in c x)
  where
    or_true : (b : Bool) → b || true ≡ true
    or_true true = refl
    or_true false = refl

pub nothing_lost : NothingIsLost
nothing_lost options s earlier later d c now reason o idle failed trace =
    let all = earlier ++ Closed c now reason o ∷ later in
    let holds = served options s all d trace c in
    let own : (c == c) ≡ true = grind (arith, nat_tests) in
    let ends : ends_in c (Closed c now reason o) ≡ true = ap (λ b. cond b (not (is_abort reason)) false) own ∙ ap not (keeps_all reason idle failed) in
    holds.replied ∙ ap (λ (l : List ℕ). written_to c all ++ l) (holds.ended (ended_within c earlier (Closed c now reason o) later ends)) ∙ append-nil (written_to c all)

-- ---- the ends of streams

ends_of : Event → List (List ℕ)
ends_of (Feed name bytes) = []
ends_of (End name) = name ∷ []
ends_of (Open c) = []
ends_of (Bytes c bytes) = []
ends_of (Shut c) = []

one_ends : (x : Action) → flat_map ends_of (events_of x) ≡ ended_names x
unfolding ends_of
one_ends (Accepted c now) = refl
one_ends (Rejected c fault) = refl
one_ends (Received c bytes) = refl
one_ends (Submitted c now line o) = refl
one_ends (Sent c now bytes) = refl
one_ends (Closed c now reason o) = refl
one_ends (Grown piece) = refl
one_ends (Fed piece o) = refl
one_ends (Ended name o) = refl
one_ends (Waited busy clock) = refl

all_end : (xs : List Action) → flat_map ends_of (flat_map events_of xs) ≡ flat_map ended_names xs
all_end [] = refl
all_end (x ∷ xs) =
    flat_map-append ends_of (events_of x) (flat_map events_of xs) ∙ ap (λ (l : List (List ℕ)). l ++ flat_map ends_of (flat_map events_of xs)) (one_ends x) ∙ ap (λ (l : List (List ℕ)). ended_names x ++ l) (all_end xs)

not_nil : (xs ys : List (List ℕ)) (x : List ℕ) → xs ++ x ∷ ys ≡ [] → ⊥
not_nil [] ys x h = cc
not_nil (y ∷ xs) ys x h = cc

pub no_end : NoEndIsReported
unfolding ends_of
no_end old new before after does earlier later name h =
    not_nil (flat_map ends_of earlier) (flat_map ends_of later) name
    (sym (flat_map-append ends_of earlier (End name ∷ later)) ∙ ap (flat_map ends_of) (sym h) ∙ all_end does.trace ∙ does.follows)

-- ---- one that is rejected, and what is reported of one that is closed

pub refused : RejectedAreRefused
refused old new c f h = (ap (λ (x : LoopState). x.hub) h.3, ap (λ (x : LoopState). x.connections) h.3, at f h.2, h.1)
  where
    at : (g : HubFault) → (g ≢ fault.Memory → IsStep old.hub (Open c) (Err g) old.hub) → (g ≡ fault.Memory) ⊎ IsStep old.hub (Open c) (Err g) old.hub
    at fault.Memory k = inl refl
    at fault.UnknownStream k = inr (k (λ e. cc))
    at fault.Ended k = inr (k (λ e. cc))
    at fault.UnknownConn k = inr (k (λ e. cc))
    at fault.AlreadyOpen k = inr (k (λ e. cc))
    at fault.TooMany k = inr (k (λ e. cc))
    at fault.Failed k = inr (k (λ e. cc))

pub reported : ClosingsAreReported
reported c now o earlier later = (
  (flat_map transfers_of earlier, flat_map transfers_of later, flat_map-append transfers_of earlier (Closed c now TransferFailed o ∷ later)),
  (flat_map transfers_of earlier, flat_map transfers_of later, flat_map-append transfers_of earlier (Closed c now PeerEnded o ∷ later)),
)

pub peers_failed : PeersFail
peers_failed old new c now o h = (h.0, h.1, h.2)

pub finished : FinishedAreClosed
finished c xs h t there written = by t.closing refl
  where
    closes : t.closing ≡ true → next_action t ≡ Close
    closes on = ap (λ (l : List ℕ). next_action (record t { unsent = l })) written ∙ ap (λ (b : Bool). next_action (record t { unsent = []; closing = b })) on

    by : (b : Bool) → t.closing ≡ b → b ≡ false
    by true on = absurd (h t there (closes on))
    by false off = refl
