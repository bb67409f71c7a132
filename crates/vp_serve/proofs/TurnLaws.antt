-- What a turn promises, in elementary terms.
use Rattle.std.proofs.Common.{◌≡◌, ◌≤◌, ◌++◌, ◌∷◌, ◌∙◌, [], ℕ, List, true, inl, inr, refl, ap, sym, subst, flat_map, arith}
use Rattle.vp_serve.specs.declared.reason.CloseReason.{CloseReason}
use Rattle.vp_serve.specs.declared.reason.CloseReason.TheVariants.{Finished, PeerEnded, IdleTimeout, OutOfMemory, TransferFailed, HubRefused}
use Rattle.vp_hub.specs.Hub.{Outcome}
use Rattle.vp_serve.specs.declared.schedule.Schedule.{Schedule}
use Rattle.vp_serve.specs.Readiness.{is_ready_for}
use Rattle.vp_serve.specs.Laws.{OnlyIdleTimeOut}
use Rattle.vp_serve.specs.Connection.{Connection}
use Rattle.vp_serve.specs.Connections.{next_action}
use Rattle.vp_serve.specs.ServerLoop.{LoopState, Action, Accepted, Rejected, Received, Submitted, Sent, Closed, Grown, Fed, Ended, Waited}
use Rattle.vp_serve.specs.Transport.{transfers_of}
use Rattle.vp_serve.specs.Turns.{AreAll, IsAt, OnlyReadyAreAttended, ReadyAreAttended, replies_in, replies_made}
use Rattle.vp_serve.proofs.ActionLemmas.{counted as replies_counted}
use Rattle.vp_serve.proofs.Performing.{all_as, all_both, made_both, made_none}
use Rattle.vp_serve.proofs.OneConnection.{same_some}
use Rattle.vp_serve.specs.LoopTurns.{ActionsAreOfTheirTurn, IsIdleClosing, IsLoopTurn, IsOfFile, TurnsAreTimely, TimeIsCounted, ReadyAreServed, TurnsAreFair, TurnsBeginByWaiting, WaitsAreForPeers, is_busy}

pub timely : TurnsAreTimely
timely names s r d e [] later x h c t is = h.3 c t is
timely names s r d e (y ∷ earlier) later x h c t is = timely names y.schedule r y.server e earlier later x h.4 c t is

pub counted : TimeIsCounted
counted names s r d e [] later x y h = (h.4.0.counted.forward, h.4.0.counted.most, h.4.0.counted.counts, h.4.0.counted.long)
counted names s r d e (z ∷ earlier) later x y h = counted names z.schedule r z.server e earlier later x y h.4

-- ---- the time of a turn

idle_at : (now : ℕ) (a : Action) → IsIdleClosing now a → IsAt now a
idle_at now (Accepted c time) h = absurd h
idle_at now (Rejected c fault) h = absurd h
idle_at now (Received c bytes) h = absurd h
idle_at now (Submitted c time line o) h = absurd h
idle_at now (Sent c time bytes) h = absurd h
idle_at now (Closed c time Finished o) h = absurd h
idle_at now (Closed c time PeerEnded o) h = absurd h
idle_at now (Closed c time IdleTimeout o) h = h
idle_at now (Closed c time OutOfMemory o) h = absurd h
idle_at now (Closed c time TransferFailed o) h = absurd h
idle_at now (Closed c time HubRefused o) h = absurd h
idle_at now (Grown piece) h = absurd h
idle_at now (Fed piece o) h = absurd h
idle_at now (Ended name o) h = absurd h
idle_at now (Waited busy clock) h = absurd h

file_at : (names : List (List ℕ)) (now : ℕ) (a : Action) → IsOfFile names a → IsAt now a
file_at names now (Accepted c time) h = absurd h
file_at names now (Rejected c fault) h = absurd h
file_at names now (Received c bytes) h = absurd h
file_at names now (Submitted c time line o) h = absurd h
file_at names now (Sent c time bytes) h = absurd h
file_at names now (Closed c time reason o) h = absurd h
file_at names now (Grown piece) h = tt
file_at names now (Fed piece o) h = tt
file_at names now (Ended name o) h = absurd h
file_at names now (Waited busy clock) h = absurd h

turn_at : (names : List (List ℕ)) (s r : Schedule) (d : LoopState) (trace : List Action) (e : LoopState) → IsLoopTurn names s r d trace e → AreAll (IsAt r.time) trace
turn_at names s r d trace e x =
    let at = IsAt r.time in
    let closings = all_as (IsIdleClosing r.time) at (idle_at r.time) x.closings x.idle in
    let feeds = all_as (IsOfFile names) at (file_at names r.time) x.feeds x.files in
    subst (λ (l : List Action). AreAll (IsAt r.time) l) (sym x.whole)
    (tt, all_both at x.taken (x.closings ++ x.feeds) x.turn.at (all_both at x.closings x.feeds closings feeds))

one_of_all : (P : Action → Type 0) (xs ys : List Action) (a : Action) → AreAll P (xs ++ a ∷ ys) → P a
one_of_all P [] ys a h = h.0
one_of_all P (x ∷ xs) ys a h = one_of_all P xs ys a h.1

in_turn : (names : List (List ℕ)) (s r : Schedule) (d : LoopState) (trace : List Action) (e : LoopState) → IsLoopTurn names s r d trace e → (before after : List Action) (a : Action) → trace ≡ before ++ a ∷ after → (c time : ℕ)
    → (a ≡ Accepted c time → time ≡ r.time) × ((line : List ℕ) (o : Outcome) → a ≡ Submitted c time line o → time ≡ r.time) × ((bytes : List ℕ) → a ≡ Sent c time bytes → time ≡ r.time)
    × ((reason : CloseReason) (o : Outcome) → a ≡ Closed c time reason o → time ≡ r.time)
in_turn names s r d trace e x before after a whole c time =
    let all : AreAll (IsAt r.time) (before ++ a ∷ after) = subst (λ (l : List Action). AreAll (IsAt r.time) l) whole (turn_at names s r d trace e x) in
    let at : IsAt r.time a = one_of_all (IsAt r.time) before after a all in (
      λ is. subst (λ (b : Action). IsAt r.time b) is at,
      λ line o is. subst (λ (b : Action). IsAt r.time b) is at,
      λ bytes is. subst (λ (b : Action). IsAt r.time b) is at,
      λ reason o is. subst (λ (b : Action). IsAt r.time b) is at,
    )

pub of_their_turn : ActionsAreOfTheirTurn
of_their_turn names s r d e [] later x h = in_turn names s x.schedule d x.trace x.server h.0
of_their_turn names s r d e (y ∷ earlier) later x h = of_their_turn names y.schedule r y.server e earlier later x h.4

pub idle_alone : OnlyIdleTimeOut
idle_alone old new c now o h = (h.0, h.1, h.2)

pub attended : ReadyAreAttended
attended now moved old new before after first last taken c t there (inl h) = taken.attended c (t, there, ap (is_ready_for (last c)) h.0 ∙ h.1)
attended now moved old new before after first last taken c t there (inr h) = taken.attended c (t, there, ap (is_ready_for (last c)) h.0 ∙ h.1)

pub only_ready : OnlyReadyAreAttended
only_ready now moved old new before after first last taken c t less there any =
    let is = taken.only_ready c less any in
    let same : is.0 ≡ t = same_some is.0 t (sym is.1 ∙ there) in
    let ready : is_ready_for (first c) (next_action t) ≡ true = subst (λ (u : Connection). is_ready_for (first c) (next_action u) ≡ true) same is.2 in (
      λ h. ap (is_ready_for (first c)) (sym h) ∙ ready,
      λ h. ap (is_ready_for (first c)) (sym h) ∙ ready,
    )

pub waits_for_peers : WaitsAreForPeers
waits_for_peers old new clock h c t there = h.0 refl c t there

pub served : ReadyAreServed
served names s r d e [] later x h = h.1
served names s r d e (y ∷ earlier) later x h = served names y.schedule r y.server e earlier later x h.4

pub begins : TurnsBeginByWaiting
begins names s r d e [] later x h = (is_busy s d, flat_map transfers_of (h.0.taken ++ (h.0.closings ++ h.0.feeds)), ap (flat_map transfers_of) h.0.whole)
begins names s r d e (y ∷ earlier) later x h = begins names y.schedule r y.server e earlier later x h.4

-- ---- the replies of a turn

idle_is_silent : (c now : ℕ) (a : Action) → IsIdleClosing now a → replies_in c a ≡ 0
idle_is_silent c now (Accepted d time) h = refl
idle_is_silent c now (Rejected d fault) h = refl
idle_is_silent c now (Received d bytes) h = refl
idle_is_silent c now (Submitted d time line o) h = absurd h
idle_is_silent c now (Sent d time bytes) h = refl
idle_is_silent c now (Closed d time reason o) h = refl
idle_is_silent c now (Grown piece) h = refl
idle_is_silent c now (Fed piece o) h = refl
idle_is_silent c now (Ended name o) h = refl
idle_is_silent c now (Waited busy clock) h = refl

file_is_silent : (c : ℕ) (names : List (List ℕ)) (a : Action) → IsOfFile names a → replies_in c a ≡ 0
file_is_silent c names (Accepted d time) h = refl
file_is_silent c names (Rejected d fault) h = refl
file_is_silent c names (Received d bytes) h = refl
file_is_silent c names (Submitted d time line o) h = absurd h
file_is_silent c names (Sent d time bytes) h = refl
file_is_silent c names (Closed d time reason o) h = refl
file_is_silent c names (Grown piece) h = refl
file_is_silent c names (Fed piece o) h = refl
file_is_silent c names (Ended name o) h = refl
file_is_silent c names (Waited busy clock) h = refl

made_in_turn : (names : List (List ℕ)) (s r : Schedule) (d : LoopState) (trace : List Action) (e : LoopState) → IsLoopTurn names s r d trace e → (c : ℕ) → replies_made c trace ≤ 1
made_in_turn names s r d trace e x c =
    let fair = x.turn.fair c in
    let closings = made_none c (IsIdleClosing r.time) (idle_is_silent c r.time) x.closings x.idle in
    let feeds = made_none c (IsOfFile names) (file_is_silent c names) x.feeds x.files in
    subst (λ (l : List Action). replies_made c l ≤ 1) (sym x.whole)
    (omega (arith, made_both c x.taken (x.closings ++ x.feeds), made_both c x.closings x.feeds))

pub fair : TurnsAreFair
fair names s r d e [] later x h c = replies_counted c x.trace (made_in_turn names s x.schedule d x.trace x.server h.0 c)
fair names s r d e (y ∷ earlier) later x h c = fair names y.schedule r y.server e earlier later x h.4 c
