-- A server and a transport, one step after another.
use Rattle.std.proofs.Common.{ℕ, ◌≤◌, length, take, ◌≡◌, ◌++◌, ◌∷◌, ◌∙◌, [], List, Option, Some, None, refl, ap, sym, subst, append_assoc, append-nil, flat_map, option_map}
use Rattle.std.proofs.lemmas.List.{take-take, take-append-le}
use Rattle.std.proofs.lemmas.List.Concat.{flat_map-append}
use Rattle.vp_hub.specs.declared.event.HubFault.{HubFault}
use Rattle.vp_hub.specs.declared.event.HubFault.TheVariants as fault
use Rattle.vp_serve.specs.declared.connection.NextAction.{NextAction}
use Rattle.vp_serve.specs.Connection.{Connection}
use Rattle.vp_serve.specs.Connections.{connection_of, next_action}
use Rattle.vp_serve.specs.Reasons.{reason_by}
use Rattle.vp_serve.specs.Transfer.{Transfer, Logs}
use Rattle.vp_serve.specs.ServerLoop.{LoopState, Action, IsTransition}
use Rattle.vp_serve.specs.Transport.{ContinuesLoop, transfers_of, ended_names, causes}
use Rattle.vp_serve.proofs.Traces.{joined}

-- nothing passes
pub logs_none : (a b : Option (List Transfer)) → b ≡ a → Logs a b []
logs_none None b h = h
logs_none (Some l) b h = h ∙ ap (λ (x : List Transfer). Some x) (sym (append-nil l))

pub logs_both : (a b c : Option (List Transfer)) (xs ys : List Transfer) → Logs a b xs → Logs b c ys → Logs a c (xs ++ ys)
logs_both None b c xs ys h k = by_none b c ys h k
  where
    by_none : (b c : Option (List Transfer)) (ys : List Transfer) → b ≡ None → Logs b c ys → c ≡ None
    by_none b c ys h k = subst (λ (x : Option (List Transfer)). Logs x c ys) h k
logs_both (Some l) b c xs ys h k = at (subst (λ (x : Option (List Transfer)). Logs x c ys) h k)
  where
    at : c ≡ Some ((l ++ xs) ++ ys) → c ≡ Some (l ++ (xs ++ ys))
    at e = e ∙ ap (λ (x : List Transfer). Some x) (append_assoc l xs ys)

-- no action
pub none : (d : LoopState) (a b : Option (List Transfer)) → b ≡ a → ContinuesLoop d d a b
none d a b h = record { trace = []; is_trace = refl; logs = logs_none a b h; follows = refl }

-- one action
pub one : (d e : LoopState) (x : Action) (a b : Option (List Transfer)) → IsTransition d x e → Logs a b (transfers_of x) → ended_names x ≡ [] → ContinuesLoop d e a b
one d e x a b step logs follows = record {
  trace = x ∷ [];
  is_trace = (e, step, refl);
  logs = subst (λ (ts : List Transfer). Logs a b ts) (sym (append-nil (transfers_of x))) logs;
  follows = append-nil (ended_names x) ∙ follows;
}

-- one part after another
unfoldable pub on : (d e f : LoopState) (a b c : Option (List Transfer)) → ContinuesLoop d e a b → ContinuesLoop e f b c → ContinuesLoop d f a c
on d e f a b c x y = record {
  trace = x.trace ++ y.trace;
  is_trace = joined d e f x.trace y.trace x.is_trace y.is_trace;
  logs = subst (λ (ts : List Transfer). Logs a c ts) (sym (flat_map-append transfers_of x.trace y.trace)) (logs_both a b c (flat_map transfers_of x.trace) (flat_map transfers_of y.trace) x.logs y.logs);
  follows = flat_map-append ended_names x.trace y.trace ∙ ap (λ (l : List (List ℕ)). l ++ flat_map ended_names y.trace) x.follows ∙ y.follows;
}

-- what a transport did without a transfer is no action
pub quiet : (d e : LoopState) (a b c : Option (List Transfer)) → Logs a b [] → ContinuesLoop d e b c → ContinuesLoop d e a c
quiet d e a b c h y = on d d e a b c (record { trace = []; is_trace = refl; logs = h; follows = refl }) y

-- what is left of a buffer that was read into, cut to the bytes that were read
pub prefix_of : (count n : ℕ) (b r : List ℕ) → count ≤ n → count ≤ length b → take count (take n (b ++ r)) ≡ take count b
prefix_of count n b r h k = take-take count n (b ++ r) h ∙ take-append-le count b r k

-- ---- the connection that an action is due for

pub due : (number : ℕ) (n : NextAction) (xs : List Connection) → option_map next_action (connection_of number xs) ≡ Some n
    → (t : Connection) × (connection_of number xs ≡ Some t) × (next_action t ≡ n)
due number n xs h = at (connection_of number xs) refl h
  where
    same : (a b : NextAction) → Some a ≡ Some b → a ≡ b
    same a b e = cc

    never : None ≡ Some n → ⊥
    never e = cc

    at : (o : Option Connection) → connection_of number xs ≡ o → option_map next_action o ≡ Some n → (t : Connection) × (connection_of number xs ≡ Some t) × (next_action t ≡ n)
    at None e k = absurd (never k)
    at (Some t) e k = (t, e, same (next_action t) n k)

-- a fault of the hub, or none, is a reason with no report of the transport
pub no_cause : (c : ℕ) (f : Option HubFault) → causes c (reason_by f) ≡ []
no_cause c None = refl
no_cause c (Some fault.Memory) = refl
no_cause c (Some fault.UnknownStream) = refl
no_cause c (Some fault.Ended) = refl
no_cause c (Some fault.UnknownConn) = refl
no_cause c (Some fault.AlreadyOpen) = refl
no_cause c (Some fault.TooMany) = refl
no_cause c (Some fault.Failed) = refl
