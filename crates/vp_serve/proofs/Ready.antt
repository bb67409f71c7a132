-- What connections are ready for, from one call of a transport to the next.
use Rattle.std.proofs.Common.{◌≡◌, ◌≤◌, ◌<◌, ◌||◌, ◌∙◌, ℕ, Bool, true, false, Option, Some, None, refl, ap, sym, subst, arith, option_map}
use Rattle.std.specs.Prelude.{IfSome}
use Rattle.vp_serve.specs.declared.connection.NextAction.{NextAction}
use Rattle.vp_serve.specs.declared.connection.NextAction.TheVariants.{Send, Submit, Receive, Close}
use Rattle.vp_serve.specs.Connection.{Connection}
use Rattle.vp_serve.specs.Connections.{connection_of, next_action}
use Rattle.vp_serve.specs.ServerLoop.{LoopState}
use Rattle.vp_serve.specs.Readiness.{Readiness, IsReadyAt, AreNoReadier, is_ready_for}
use Rattle.vp_serve.specs.Turns.{IsDueAt, is_due_action}
use Rattle.vp_serve.specs.Parts.{AreNoReadierBelow}
use Rattle.vp_serve.proofs.OneConnection.{true_false}

pub no_readier_none : (r : ℕ → Readiness) → AreNoReadier r r
no_readier_none r c = (λ h. h, λ h. h)

pub no_readier_on : (r s t : ℕ → Readiness) → AreNoReadier r s → AreNoReadier s t → AreNoReadier r t
no_readier_on r s t x y c = (λ h. (x c).0 ((y c).0 h), λ h. (x c).1 ((y c).1 h))

pub ready_before : (c : ℕ) (n : NextAction) (r s : ℕ → Readiness) → AreNoReadier r s → is_ready_for (s c) n ≡ true → is_ready_for (r c) n ≡ true
ready_before c Send r s x h = (x c).1 h
ready_before c Receive r s x h = (x c).0 h
ready_before c Submit r s x h = refl
ready_before c Close r s x h = refl

-- what is answered of a connection's next action
pub ready_answer : (c : ℕ) (r : ℕ → Readiness) (d : LoopState) (action : Option NextAction) (b : Bool) → action ≡ option_map next_action (connection_of c d.connections)
    → IfSome action (λ n. b ≡ is_ready_for (r c) n) → IsReadyAt c r d → b ≡ true
ready_answer c r d action b e h is =
    subst (λ (o : Option NextAction). IfSome o (λ n. b ≡ is_ready_for (r c) n)) (e ∙ ap (option_map next_action) is.1) h ∙ is.2

-- if the answer is yes, it is open and ready
pub ready_only : (c : ℕ) (r : ℕ → Readiness) (d : LoopState) (action : Option NextAction) (b : Bool) → action ≡ option_map next_action (connection_of c d.connections)
    → (action ≡ None → b ≡ false) → IfSome action (λ n. b ≡ is_ready_for (r c) n) → b ≡ true → IsReadyAt c r d
ready_only c r d action b e none h is = at (connection_of c d.connections) refl e
  where
    at : (o : Option Connection) → connection_of c d.connections ≡ o → action ≡ option_map next_action o → IsReadyAt c r d
    at None k f = absurd (true_false (sym is ∙ none f))
    at (Some t) k f = (t, k, sym (subst (λ (o : Option NextAction). IfSome o (λ n. b ≡ is_ready_for (r c) n)) f h) ∙ is)

-- ---- those of smaller numbers

pub below_none : (n : ℕ) (r : ℕ → Readiness) → AreNoReadierBelow n r r
below_none n r c less = (λ h. h, λ h. h)

pub below_all : (n : ℕ) (r s : ℕ → Readiness) → AreNoReadier r s → AreNoReadierBelow n r s
below_all n r s x c less = x c

pub below_on : (m n : ℕ) (r s t : ℕ → Readiness) → m ≤ n → AreNoReadierBelow m r s → AreNoReadierBelow n s t → AreNoReadierBelow m r t
below_on m n r s t le x y c less =
    let under : c < n = omega (arith, less, le) in
    (λ h. (x c less).0 ((y c under).0 h), λ h. (x c less).1 ((y c under).1 h))

pub below_others : (n k : ℕ) (r s : ℕ → Readiness) → k ≡ n → ((c : ℕ) → (c ≡ k → ⊥) → s c ≡ r c) → AreNoReadierBelow n r s
below_others n k r s e same c less =
    let apart : c ≡ k → ⊥ = λ h. omega (arith, e, h, less) in
    (λ h. ap (λ (x : Readiness). x.read) (sym (same c apart)) ∙ h, λ h. ap (λ (x : Readiness). x.write) (sym (same c apart)) ∙ h)

pub quiet_both : (s r b : Bool) → (s || r) || b ≡ false → (s ≡ false) × (r ≡ false)
quiet_both true r b h = absurd (true_false h)
quiet_both false true b h = absurd (true_false h)
quiet_both false false b h = (refl, refl)

-- a connection that is ready after it was attended has had an action
pub ready_moves : (c : ℕ) (s r o : Bool) (d d1 e : LoopState) (q1 q2 q5 : ℕ → Readiness) → (o ≡ false → (s ≡ false) × (r ≡ false)) → (s ≡ false → d1 ≡ d) → (o ≡ false → e ≡ d)
    → (IsDueAt c d → o ≡ true) → (option_map next_action (connection_of c d.connections) ≡ Some Send → s ≡ false → (q1 c).write ≡ false)
    → (option_map next_action (connection_of c d1.connections) ≡ Some Receive → r ≡ false → (q2 c).read ≡ false) → AreNoReadier q1 q5 → AreNoReadier q2 q5 → IsReadyAt c q5 e → o ≡ true
ready_moves c s r true d d1 e q1 q2 q5 quiet a b due f g x y is = refl
ready_moves c s r false d d1 e q1 q2 q5 quiet a b due f g x y is = at (next_action is.0) refl is.2
  where
    here : connection_of c d.connections ≡ Some is.0
    here = ap (λ (z : LoopState). connection_of c z.connections) (sym (b refl)) ∙ is.1

    acts : (n : NextAction) → next_action is.0 ≡ n → option_map next_action (connection_of c d.connections) ≡ Some n
    acts n k = ap (option_map next_action) here ∙ ap (λ (m : NextAction). Some m) k

    at : (n : NextAction) → next_action is.0 ≡ n → is_ready_for (q5 c) n ≡ true → false ≡ true
    at Send k h = sym (f (acts Send k) (quiet refl).0) ∙ (x c).1 h
    at Receive k h = sym (g (ap (λ (z : LoopState). option_map next_action (connection_of c z.connections)) (a (quiet refl).0) ∙ acts Receive k) (quiet refl).1) ∙ (y c).0 h
    at Submit k h = due (is.0, here, ap is_due_action k)
    at Close k h = due (is.0, here, ap is_due_action k)
