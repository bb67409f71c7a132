-- When connections were last active, and when the idle timeouts are checked.
use Rattle.std.proofs.Common.{◌≡◌, ◌==◌, ◌++◌, ◌∷◌, ◌∙◌, ◌+◌, ◌≤◌, ◌<◌, ◌⊎◌, inl, inr, [], ℕ, List, Bool, true, false, Option, Some, None, Ok, Err, cond, refl, ap, sym, subst, arith, nat_lt, not, option_map}
use Rattle.std.proofs.lemmas.Bool.Decides.{nat_tests}
use Rattle.vp_hub.specs.Hub.{Outcome}
use Rattle.vp_serve.specs.declared.options.ServeOptions.{ServeOptions}
use Rattle.vp_serve.specs.declared.schedule.Schedule.{Schedule}
use Rattle.vp_serve.specs.Connection.{Connection}
use Rattle.vp_serve.specs.Connections.{connection_of, with_connection, without, new_connection, after_outcome, is_nil}
use Rattle.vp_serve.specs.ServerLoop.{LoopState, Action, IsTransition, IsTrace, Accepted, Rejected, Received, Submitted, Sent, Closed, Grown, Fed, Ended, Waited}
use Rattle.vp_serve.specs.Reading.{is_idle}
use Rattle.vp_serve.specs.Turns.{AreAll, IsAt}
use Rattle.vp_serve.specs.Schedule.{AreStillOpen, IsNoneIdle, IsScheduled, IsTimely}
use Rattle.vp_serve.proofs.Changes.{first_of, connection_of-push, connection_of-with_connection, connection_of_other-with_connection, connection_of-without, connection_of_other-without}
use Rattle.vp_serve.proofs.OneConnection.{number_of, same_some, none_some, no_some}
use Rattle.vp_serve.proofs.Performing.{outcome_number}

-- the options stay
options_step : (d e : LoopState) (x : Action) → IsTransition d x e → e.options ≡ d.options
options_step d e (Accepted c time) h = ap (λ (x : LoopState). x.options) h.3
options_step d e (Rejected c fault) h = ap (λ (x : LoopState). x.options) h.3
options_step d e (Received c bytes) h = ap (λ (x : LoopState). x.options) h.4
options_step d e (Submitted c time line o) h = ap (λ (x : LoopState). x.options) h.7
options_step d e (Sent c time bytes) h = ap (λ (x : LoopState). x.options) h.5
options_step d e (Closed c time reason o) h = ap (λ (x : LoopState). x.options) h.4
options_step d e (Grown piece) h = ap (λ (x : LoopState). x.options) h.1
options_step d e (Fed piece o) h = ap (λ (x : LoopState). x.options) h.2
options_step d e (Ended name o) h = ap (λ (x : LoopState). x.options) h.2
options_step d e (Waited busy clock) h = ap (λ (x : LoopState). x.options) h.1

pub options_stay : (d e : LoopState) (xs : List Action) → IsTrace d xs e → e.options ≡ d.options
options_stay d e [] h = ap (λ (x : LoopState). x.options) h
options_stay d e (x ∷ xs) h = options_stay h.0 e xs h.2 ∙ options_step d h.0 x h.1

-- ---- the time at which a connection was last active

-- a connection was last active now, or as it was before
abbrev pub IsActive : ℕ → Option Connection → Connection → Type 0
IsActive now before t = (t.last_active ≡ now) ⊎ ((u : Connection) × (before ≡ Some u) × (t.last_active ≡ u.last_active))

-- so is each open connection
abbrev pub AreActive : ℕ → LoopState → LoopState → Type 0
AreActive now old new = (c : ℕ) (t : Connection) → connection_of c new.connections ≡ Some t → IsActive now (connection_of c old.connections) t

unchanged : (now : ℕ) (c : ℕ) (t : Connection) (xs ys : List Connection) → connection_of c ys ≡ connection_of c xs → connection_of c ys ≡ Some t → IsActive now (connection_of c xs) t
unchanged now c t xs ys same there = inr (t, sym same ∙ there, refl)

-- one connection changes
changed : (now c k : ℕ) (t u v : Connection) (xs : List Connection) → connection_of k xs ≡ Some t → (u.number == k) ≡ true → (u.last_active ≡ now) ⊎ (u.last_active ≡ t.last_active)
    → connection_of c (with_connection k u xs) ≡ Some v → IsActive now (connection_of c xs) v
changed now c k t u v xs there number last is = at (k == c) refl
  where
    equal : (k == c) ≡ true → k ≡ c
    equal h = grind (arith, nat_tests, h)

    own : connection_of k (with_connection k u xs) ≡ Some v → (u.last_active ≡ now) ⊎ (u.last_active ≡ t.last_active) → IsActive now (connection_of k xs) v
    own h (inl e) = inl (ap (λ (x : Connection). x.last_active) (sym (same_some u v (sym (connection_of-with_connection k u xs number ∙ ap (option_map (λ _. u)) there) ∙ h))) ∙ e)
    own h (inr e) = inr (t, there, ap (λ (x : Connection). x.last_active) (sym (same_some u v (sym (connection_of-with_connection k u xs number ∙ ap (option_map (λ _. u)) there) ∙ h))) ∙ e)

    at : (b : Bool) → (k == c) ≡ b → IsActive now (connection_of c xs) v
    at true e = subst (λ j. connection_of j (with_connection k u xs) ≡ Some v → IsActive now (connection_of j xs) v) (equal e) (λ h. own h last) is
    at false e = unchanged now c v xs (with_connection k u xs) (connection_of_other-with_connection c k u xs number e) is

outcome_time : (o : Outcome) (rest : List ℕ) (now : ℕ) (t : Connection) → ((after_outcome o rest now t).last_active ≡ now) ⊎ ((after_outcome o rest now t).last_active ≡ t.last_active)
outcome_time (Err f) rest now t = inr refl
outcome_time (Ok r) rest now t = at (is_nil r.bytes)
  where
    at : (b : Bool) → (cond b t.last_active now ≡ now) ⊎ (cond b t.last_active now ≡ t.last_active)
    at true = inr refl
    at false = inl refl

pushed : (now c k : ℕ) (v : Connection) (xs : List Connection) → connection_of c (xs ++ new_connection k now ∷ []) ≡ Some v → IsActive now (connection_of c xs) v
pushed now c k v xs is = at (connection_of c xs) refl (k == c) (sym (connection_of-push c (new_connection k now) xs) ∙ is)
  where
    at : (o : Option Connection) → connection_of c xs ≡ o → (b : Bool) → first_of o (cond b (Some (new_connection k now)) None) ≡ Some v → IsActive now (connection_of c xs) v
    at None e true h = inl (ap (λ (x : Connection). x.last_active) (sym (same_some (new_connection k now) v h)))
    at None e false h = absurd (none_some v h)
    at (Some t) e b h = inr (t, e, ap (λ (x : Connection). x.last_active) (sym (same_some t v h)))

removed : (c k : ℕ) (v : Connection) (xs : List Connection) → connection_of c (without k xs) ≡ Some v → connection_of c xs ≡ Some v
removed c k v xs is = at (k == c) refl
  where
    equal : (k == c) ≡ true → k ≡ c
    equal h = grind (arith, nat_tests, h)

    at : (b : Bool) → (k == c) ≡ b → connection_of c xs ≡ Some v
    at true e = absurd (no_some (connection_of c (without k xs)) v (subst (λ j. connection_of j (without k xs) ≡ None) (equal e) (connection_of-without k xs)) is)
    at false e = sym (connection_of_other-without c k xs e) ∙ is

active_step : (now : ℕ) (d e : LoopState) (x : Action) → IsTransition d x e → IsAt now x → AreActive now d e
active_step now d e (Accepted k time) h at =
    λ c t is. pushed now c k t d.connections (subst (λ n. connection_of c (d.connections ++ new_connection k n ∷ []) ≡ Some t) at (sym (ap (λ (x : LoopState). connection_of c x.connections) h.3) ∙ is))
active_step now d e (Rejected k fault) h at = λ c t is. unchanged now c t d.connections e.connections (ap (λ (x : LoopState). connection_of c x.connections) h.3) is
active_step now d e (Received k bytes) h at =
    λ c t is. changed now c k h.0 (record h.0 { unsubmitted = bytes }) t d.connections h.1 (number_of k h.0 d.connections h.1) (inr refl) (sym (ap (λ (x : LoopState). connection_of c x.connections) h.4) ∙ is)
active_step now d e (Submitted k time line o) h at =
    λ c t is. changed now c k h.0 (after_outcome o h.1 time h.0) t d.connections h.2 (ap (λ n. n == k) (outcome_number o h.1 time h.0) ∙ number_of k h.0 d.connections h.2)
    (subst (λ n. ((after_outcome o h.1 time h.0).last_active ≡ n) ⊎ ((after_outcome o h.1 time h.0).last_active ≡ h.0.last_active)) at (outcome_time o h.1 time h.0))
    (sym (ap (λ (x : LoopState). connection_of c x.connections) h.7) ∙ is)
active_step now d e (Sent k time bytes) h at =
    λ c t is. changed now c k h.0 (record h.0 { unsent = h.1; last_active = time }) t d.connections h.2 (number_of k h.0 d.connections h.2) (inl at) (sym (ap (λ (x : LoopState). connection_of c x.connections) h.5) ∙ is)
active_step now d e (Closed k time reason o) h at =
    λ c t is. inr (t, removed c k t d.connections (sym (ap (λ (x : LoopState). connection_of c x.connections) h.4) ∙ is), refl)
active_step now d e (Grown piece) h at = λ c t is. unchanged now c t d.connections e.connections (ap (λ (x : LoopState). connection_of c x.connections) h.1) is
active_step now d e (Fed piece o) h at = λ c t is. unchanged now c t d.connections e.connections (ap (λ (x : LoopState). connection_of c x.connections) h.2) is
active_step now d e (Ended name o) h at = λ c t is. unchanged now c t d.connections e.connections (ap (λ (x : LoopState). connection_of c x.connections) h.2) is
active_step now d e (Waited busy clock) h at = λ c t is. unchanged now c t d.connections e.connections (ap (λ (x : LoopState). connection_of c x.connections) h.1) is

active_both : (now : ℕ) (d e f : LoopState) → AreActive now d e → AreActive now e f → AreActive now d f
active_both now d e f x y c t is = at (y c t is)
  where
    then : (u : Connection) → t.last_active ≡ u.last_active → IsActive now (connection_of c d.connections) u → IsActive now (connection_of c d.connections) t
    then u same (inl e) = inl (same ∙ e)
    then u same (inr v) = inr (v.0, v.1, same ∙ v.2)

    at : IsActive now (connection_of c e.connections) t → IsActive now (connection_of c d.connections) t
    at (inl e) = inl e
    at (inr u) = then u.0 u.2 (x c u.0 u.1)

pub are_active : (now : ℕ) (d e : LoopState) (xs : List Action) → IsTrace d xs e → AreAll (IsAt now) xs → AreActive now d e
are_active now d e [] h at = λ c t is. unchanged now c t d.connections e.connections (ap (λ (x : LoopState). connection_of c x.connections) h) is
are_active now d e (x ∷ xs) h at = active_both now d h.0 e (active_step now d h.0 x h.1 at.0) (are_active now h.0 e xs h.2 at.1)

pub closed_still_open : (k : ℕ) (d e : LoopState) → e.connections ≡ without k d.connections → AreStillOpen d.connections e.connections
closed_still_open k d e h c t is = removed c k t d.connections (sym (ap (connection_of c) h) ∙ is)

-- ---- the check of the idle timeouts, one connection after another in ascending order of their numbers

-- a connection of a number below `from` is open, and its idle timeout isn't over
abbrev pub AreNoneIdleBelow : ℕ → ℕ → LoopState → Type 0
AreNoneIdleBelow from now d = (c : ℕ) (t : Connection) → c < from → connection_of c d.connections ≡ Some t → now < t.last_active + d.options.idle_timeout

pub not_idle : (options : ServeOptions) (now : ℕ) (o : Option Connection) (t : Connection) → is_idle options now o ≡ false → o ≡ Some t → now < t.last_active + options.idle_timeout
not_idle options now None t h is = absurd (none_some t is)
not_idle options now (Some u) t h is = subst (λ (x : Connection). now < x.last_active + options.idle_timeout) (same_some u t is) (within (u.last_active + options.idle_timeout) h)
  where
    within : (n : ℕ) → not (nat_lt now n) ≡ false → now < n
    within n h = grind (arith, nat_tests, h)

pub still_below : (from n now : ℕ) (d e : LoopState) (xs : List Action) → AreNoneIdleBelow from now d → ((k : ℕ) → from ≤ k → k < n → connection_of k d.connections ≡ None) → IsTrace d xs e → AreStillOpen d.connections e.connections
    → ((t : Connection) → connection_of n e.connections ≡ Some t → now < t.last_active + e.options.idle_timeout) → AreNoneIdleBelow (n + 1) now e
still_below from n now d e xs below gap trace still gone c t less there = at (nat_lt c from) refl (n == c) refl
  where
    before : connection_of c d.connections ≡ Some t
    before = still c t there

    equal : (n == c) ≡ true → n ≡ c
    equal h = grind (arith, nat_tests, h)

    at : (a : Bool) → nat_lt c from ≡ a → (b : Bool) → (n == c) ≡ b → now < t.last_active + e.options.idle_timeout
    at true h b k =
        let under : c < from = grind (arith, nat_tests, h) in
        omega (arith, below c t under before, ap (λ (o : ServeOptions). o.idle_timeout) (options_stay d e xs trace))
    at false h true k = gone t (subst (λ j. connection_of j e.connections ≡ Some t) (sym (equal k)) there)
    at false h false k =
        let above : from ≤ c = grind (arith, nat_tests, h) in
        let under : c < n = grind (arith, nat_tests, less, k) in
        absurd (no_some (connection_of c d.connections) t (gap c above under) before)

pub none_idle : (from now : ℕ) (d : LoopState) → AreNoneIdleBelow from now d → ((k : ℕ) → from ≤ k → connection_of k d.connections ≡ None) → IsNoneIdle now d
none_idle from now d below rest c t there = at (nat_lt c from) refl
  where
    at : (a : Bool) → nat_lt c from ≡ a → now < t.last_active + d.options.idle_timeout
    at true h = below c t (grind (arith, nat_tests, h)) there
    at false h =
        let above : from ≤ c = grind (arith, nat_tests, h) in
        absurd (no_some (connection_of c d.connections) t (rest c above) there)

pub open_both : (d e f : LoopState) → AreStillOpen d.connections e.connections → AreStillOpen e.connections f.connections → AreStillOpen d.connections f.connections
open_both d e f x y c t is = x c t (y c t is)

-- ---- a turn of the loop

-- what the parts of a turn leave: where `check` was due, no connection whose timeout is over
pub record LeavesTimely (now check next : ℕ) (d g : LoopState) : Type 0 where
  pub options : g.options ≡ d.options
  pub active : AreActive now d g
  pub none : check ≤ now → IsNoneIdle now g
  pub waits : now < check → next ≡ check
  pub due : check ≤ now → next ≤ now + 1000

pub leaves : (now check next : ℕ) (d e f g : LoopState) (xs ys zs : List Action) → IsTrace d xs e → AreAll (IsAt now) xs → AreStillOpen e.connections f.connections
    → (check ≤ now → IsNoneIdle now f) → IsTrace f ys g → g.connections ≡ f.connections → IsTrace d zs g → (now < check → next ≡ check) → (check ≤ now → next ≤ now + 1000) → LeavesTimely now check next d g
leaves now check next d e f g xs ys zs turn at still none feeding same whole waits later = record {
  options = options_stay d g zs whole;
  active = λ c t there. are_active now d e xs turn at c t (still c t (sym (ap (connection_of c) same) ∙ there));
  none = λ h c t there. omega (arith, none h c t (sym (ap (connection_of c) same) ∙ there), ap (λ (o : ServeOptions). o.idle_timeout) (options_stay f g ys feeding));
  waits = waits;
  due = later;
}

pub scheduled : (s r : Schedule) (d g : LoopState) → s.time ≤ r.time → LeavesTimely r.time s.next_check r.next_check d g → IsScheduled s d → IsScheduled r g × IsTimely r.time g
scheduled s r d g forward x h = at (nat_lt r.time s.next_check) refl
  where
    now : ℕ
    now = r.time

    at : (b : Bool) → nat_lt r.time s.next_check ≡ b → IsScheduled r g × IsTimely r.time g
    at false e =
        let due : s.next_check ≤ r.time = grind (arith, nat_tests, e) in (
          record { soon = x.due due; timeouts = λ c t is. omega (arith, x.due due, x.none due c t is) },
          λ c t is. omega (arith, x.none due c t is),
        )
    at true e =
        let less : r.time < s.next_check = grind (arith, nat_tests, e) in
        let same = x.waits less in
        let bound : (c : ℕ) (t : Connection) → connection_of c g.connections ≡ Some t → s.next_check ≤ t.last_active + g.options.idle_timeout + 1000 = λ c t is. one c t (x.active c t is) in (
          record { soon = omega (arith, same, h.soon, forward); timeouts = λ c t is. omega (arith, same, bound c t is) },
          λ c t is. omega (arith, less, bound c t is),
        )
      where
        one : (c : ℕ) (t : Connection) → IsActive r.time (connection_of c d.connections) t → s.next_check ≤ t.last_active + g.options.idle_timeout + 1000
        one c t (inl is) = omega (arith, h.soon, forward, is)
        one c t (inr u) = omega (arith, h.timeouts c u.0 u.1, u.2, ap (λ (o : ServeOptions). o.idle_timeout) x.options)

-- before the first turn
pub scheduled_first : (s : Schedule) (d : LoopState) → s ≡ record { time = 0; clock = 0; next_check = 0; next_poll = 0; is_busy = false } → IsScheduled s d
scheduled_first s d h =
    let first : s.next_check ≡ 0 = ap (λ (x : Schedule). x.next_check) h in
    record { soon = omega (arith, first); timeouts = λ c t is. omega (arith, first) }
