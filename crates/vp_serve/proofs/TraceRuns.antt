-- A trace is a run of the hub.
use Rattle.std.proofs.Common.{◌≡◌, ◌∷◌, [], List, ap, subst, flat_map}
use Rattle.vp_hub.specs.Hub.{HubState}
use Rattle.vp_hub.specs.View.{IsRun}
use Rattle.vp_serve.specs.ServerLoop.{LoopState, Action, Accepted, Rejected, Received, Submitted, Sent, Closed, Grown, Fed, Ended, Waited, events_of, action_outcomes}
use Rattle.vp_serve.specs.Laws.{TracesAreRuns}

same_hub : (a b : HubState) (hub : HubState) (xs : List Action) → a ≡ b → IsRun a (flat_map events_of xs) (flat_map action_outcomes xs) hub
    → IsRun b (flat_map events_of xs) (flat_map action_outcomes xs) hub
same_hub a b hub xs e h = subst (λ (x : HubState). IsRun x (flat_map events_of xs) (flat_map action_outcomes xs) hub) e h

pub runs : TracesAreRuns
runs old new [] h = ap (λ (t : LoopState). t.hub) h
runs old new (Accepted c now ∷ xs) (mid, h, k) = (mid.hub, h.2, runs mid new xs k)
runs old new (Rejected c fault ∷ xs) (mid, h, k) = same_hub mid.hub old.hub new.hub xs (ap (λ (t : LoopState). t.hub) h.3) (runs mid new xs k)
runs old new (Received c bytes ∷ xs) (mid, h, k) = same_hub mid.hub old.hub new.hub xs (ap (λ (t : LoopState). t.hub) h.4) (runs mid new xs k)
runs old new (Submitted c now line o ∷ xs) (mid, h, k) = (mid.hub, h.6, runs mid new xs k)
runs old new (Sent c now bytes ∷ xs) (mid, h, k) = same_hub mid.hub old.hub new.hub xs (ap (λ (t : LoopState). t.hub) h.5) (runs mid new xs k)
runs old new (Closed c now reason o ∷ xs) (mid, h, k) = (mid.hub, h.3, runs mid new xs k)
runs old new (Grown piece ∷ xs) (mid, h, k) = same_hub mid.hub old.hub new.hub xs (ap (λ (t : LoopState). t.hub) h.1) (runs mid new xs k)
runs old new (Fed piece o ∷ xs) (mid, h, k) = (mid.hub, h.1, runs mid new xs k)
runs old new (Ended name o ∷ xs) (mid, h, k) = (mid.hub, h.1, runs mid new xs k)
runs old new (Waited busy clock ∷ xs) (mid, h, k) = same_hub mid.hub old.hub new.hub xs (ap (λ (t : LoopState). t.hub) h.1) (runs mid new xs k)
