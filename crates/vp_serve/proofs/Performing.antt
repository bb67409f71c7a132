-- Traces of actions of one kind, one after another.
use Rattle.std.proofs.Common.{◌≡◌, ◌==◌, ◌||◌, ◌++◌, ◌∷◌, ◌∙◌, ◌+◌, ◌≤◌, ◌⊎◌, inl, inr, [], ℕ, List, Bool, true, false, Option, Some, None, Ok, Err, cond, refl, ap, sym, subst, arith, append-nil, flat_map, option_map}
use Rattle.std.specs.List.{list_any}
use Rattle.std.proofs.lemmas.Bool.{eqb-true}
use Rattle.std.proofs.lemmas.Bool.Decides.{nat_tests}
use Rattle.std.proofs.lemmas.List.Concat.{flat_map-append}
use Rattle.vp_hub.specs.Hub.{Outcome}
use Rattle.vp_serve.specs.declared.connection.NextAction.{NextAction}
use Rattle.vp_serve.specs.declared.connection.NextAction.TheVariants.{Send, Submit, Receive, Close}
use Rattle.vp_serve.specs.Connection.{Connection}
use Rattle.vp_serve.specs.Connections.{connection_of, without, next_action, after_outcome, is_nil}
use Rattle.vp_serve.specs.Transfer.{Transfer, Logs}
use Rattle.vp_serve.specs.ServerLoop.{LoopState, Action, IsTransition, IsTrace, Accepted, Rejected, Received, Submitted, Sent, Closed, Grown, Fed, Ended, Waited}
use Rattle.vp_serve.specs.Transport.{ContinuesLoop, transfers_of, ended_names}
use Rattle.vp_serve.specs.Parts.{Performs, IsTransferOf, IsSubmissionOf, IsArrival}
use Rattle.vp_serve.specs.Turns.{AreAll, has_actions, AttendsOne, IsOwn, IsAt, IsDueAt, is_due_action, is_of, replies_in, replies_made, reply_count}
use Rattle.vp_serve.proofs.Traces.{joined}
use Rattle.vp_serve.proofs.Continuing.{logs_none, logs_both}
use Rattle.vp_serve.proofs.Changes.{connection_of-with_connection, connection_of_other-with_connection, connection_of-without, connection_of_other-without}
use Rattle.vp_serve.proofs.OneConnection.{number_of}

-- ---- all actions of a trace

pub all_both : (P : Action → Type 0) (xs ys : List Action) → AreAll P xs → AreAll P ys → AreAll P (xs ++ ys)
all_both P [] ys h k = k
all_both P (x ∷ xs) ys h k = (h.0, all_both P xs ys h.1 k)

pub all_as : (P Q : Action → Type 0) → ((x : Action) → P x → Q x) → (xs : List Action) → AreAll P xs → AreAll Q xs
all_as P Q f [] h = tt
all_as P Q f (x ∷ xs) h = (f x h.0, all_as P Q f xs h.1)

pub has_both : (xs ys : List Action) → has_actions (xs ++ ys) ≡ has_actions xs || has_actions ys
has_both [] ys = refl
has_both (x ∷ xs) ys = refl

pub any_acts : (f : Action → Bool) (xs : List Action) → list_any f xs ≡ true → has_actions xs ≡ true
any_acts f [] h = h
any_acts f (x ∷ xs) h = refl

pub made_both : (c : ℕ) (xs ys : List Action) → replies_made c (xs ++ ys) ≡ replies_made c xs + replies_made c ys
made_both c [] ys = omega arith
made_both c (x ∷ xs) ys = omega (arith, made_both c xs ys)

pub made_none : (c : ℕ) (P : Action → Type 0) → ((x : Action) → P x → replies_in c x ≡ 0) → (xs : List Action) → AreAll P xs → replies_made c xs ≡ 0
made_none c P f [] h = refl
made_none c P f (x ∷ xs) h = omega (arith, f x h.0, made_none c P f xs h.1)

-- ---- what a part performs

pub still_of : (d e : LoopState) (xs : List Action) → IsTrace d xs e → has_actions xs ≡ false → e ≡ d
still_of d e [] h k = h
still_of d e (x ∷ xs) h k = absurd (cc_of k)
  where
    cc_of : true ≡ false → ⊥
    cc_of e = cc

pub still : (P : Action → Type 0) (m : Bool) (d e : LoopState) (a b : Option (List Transfer)) → Performs P m d e a b → m ≡ false → e ≡ d
still P m d e a b x h = still_of d e x.trace x.is_trace (x.moves ∙ h)

pub performs_none : (P : Action → Type 0) (d : LoopState) (a b : Option (List Transfer)) → b ≡ a → Performs P false d d a b
performs_none P d a b h = record { trace = []; is_trace = refl; logs = logs_none a b h; follows = refl; kind = tt; moves = refl }

unfoldable pub performs_one : (P : Action → Type 0) (d e : LoopState) (x : Action) (a b : Option (List Transfer)) → IsTransition d x e → Logs a b (transfers_of x) → ended_names x ≡ [] → P x → Performs P true d e a b
performs_one P d e x a b step logs follows is = record {
  trace = x ∷ [];
  is_trace = (e, step, refl);
  logs = subst (λ (ts : List Transfer). Logs a b ts) (sym (append-nil (transfers_of x))) logs;
  follows = append-nil (ended_names x) ∙ follows;
  kind = (is, tt);
  moves = refl;
}

unfoldable pub performs_on : (P : Action → Type 0) (m n : Bool) (d e f : LoopState) (a b c : Option (List Transfer)) → Performs P m d e a b → Performs P n e f b c → Performs P (m || n) d f a c
performs_on P m n d e f a b c x y = record {
  trace = x.trace ++ y.trace;
  is_trace = joined d e f x.trace y.trace x.is_trace y.is_trace;
  logs = subst (λ (ts : List Transfer). Logs a c ts) (sym (flat_map-append transfers_of x.trace y.trace)) (logs_both a b c (flat_map transfers_of x.trace) (flat_map transfers_of y.trace) x.logs y.logs);
  follows = flat_map-append ended_names x.trace y.trace ∙ ap (λ (l : List (List ℕ)). l ++ flat_map ended_names y.trace) x.follows ∙ y.follows;
  kind = all_both P x.trace y.trace x.kind y.kind;
  moves = has_both x.trace y.trace ∙ ap (λ t. t || has_actions y.trace) x.moves ∙ ap (λ t. m || t) y.moves;
}

-- one more action, or none
pub performs_more : (P : Action → Type 0) (m : Bool) (d e f : LoopState) (a b c : Option (List Transfer)) → Performs P m d e a b → Performs P true e f b c → Performs P true d f a c
performs_more P m d e f a b c x y = subst (λ t. Performs P t d f a c) (or_true m) (performs_on P m true d e f a b c x y)
  where
    or_true : (b : Bool) → b || true ≡ true
    or_true true = refl
    or_true false = refl

pub performs_last : (P : Action → Type 0) (m : Bool) (d e f : LoopState) (a b c : Option (List Transfer)) → Performs P m d e a b → Performs P false e f b c → Performs P m d f a c
performs_last P m d e f a b c x y = subst (λ t. Performs P t d f a c) (or_false m) (performs_on P m false d e f a b c x y)
  where
    or_false : (b : Bool) → b || false ≡ b
    or_false true = refl
    or_false false = refl

pub performs_as : (P Q : Action → Type 0) (m : Bool) (d e : LoopState) (a b : Option (List Transfer)) → ((x : Action) → P x → Q x) → Performs P m d e a b → Performs Q m d e a b
performs_as P Q m d e a b f x = record {
  trace = x.trace;
  is_trace = x.is_trace;
  logs = x.logs;
  follows = x.follows;
  kind = all_as P Q f x.trace x.kind;
  moves = x.moves;
}

-- ---- the kinds

pub transfer_is_own : (c now : ℕ) (x : Action) → IsTransferOf c now x → IsOwn c now x
transfer_is_own c now (Received d bytes) h = h
transfer_is_own c now (Sent d time bytes) h = h
transfer_is_own c now (Closed d time reason o) h = h
transfer_is_own c now (Accepted d time) h = elim h [ ]
transfer_is_own c now (Rejected d fault) h = elim h [ ]
transfer_is_own c now (Submitted d time line o) h = elim h [ ]
transfer_is_own c now (Grown piece) h = elim h [ ]
transfer_is_own c now (Fed piece o) h = elim h [ ]
transfer_is_own c now (Ended name o) h = elim h [ ]
transfer_is_own c now (Waited busy clock) h = elim h [ ]

pub submission_is_own : (c now : ℕ) (x : Action) → IsSubmissionOf c now x → IsOwn c now x
submission_is_own c now (Submitted d time line o) h = h
submission_is_own c now (Closed d time reason o) h = h
submission_is_own c now (Accepted d time) h = elim h [ ]
submission_is_own c now (Rejected d fault) h = elim h [ ]
submission_is_own c now (Received d bytes) h = elim h [ ]
submission_is_own c now (Sent d time bytes) h = elim h [ ]
submission_is_own c now (Grown piece) h = elim h [ ]
submission_is_own c now (Fed piece o) h = elim h [ ]
submission_is_own c now (Ended name o) h = elim h [ ]
submission_is_own c now (Waited busy clock) h = elim h [ ]

pub transfer_is_silent : (k c now : ℕ) (x : Action) → IsTransferOf c now x → replies_in k x ≡ 0
transfer_is_silent k c now (Received d bytes) h = refl
transfer_is_silent k c now (Sent d time bytes) h = refl
transfer_is_silent k c now (Closed d time reason o) h = refl
transfer_is_silent k c now (Accepted d time) h = elim h [ ]
transfer_is_silent k c now (Rejected d fault) h = elim h [ ]
transfer_is_silent k c now (Submitted d time line o) h = elim h [ ]
transfer_is_silent k c now (Grown piece) h = elim h [ ]
transfer_is_silent k c now (Fed piece o) h = elim h [ ]
transfer_is_silent k c now (Ended name o) h = elim h [ ]
transfer_is_silent k c now (Waited busy clock) h = elim h [ ]

pub arrival_is_silent : (k now : ℕ) (x : Action) → IsArrival now x → replies_in k x ≡ 0
arrival_is_silent k now (Accepted d time) h = refl
arrival_is_silent k now (Rejected d fault) h = refl
arrival_is_silent k now (Received d bytes) h = elim h [ ]
arrival_is_silent k now (Submitted d time line o) h = elim h [ ]
arrival_is_silent k now (Sent d time bytes) h = elim h [ ]
arrival_is_silent k now (Closed d time reason o) h = elim h [ ]
arrival_is_silent k now (Grown piece) h = elim h [ ]
arrival_is_silent k now (Fed piece o) h = elim h [ ]
arrival_is_silent k now (Ended name o) h = elim h [ ]
arrival_is_silent k now (Waited busy clock) h = elim h [ ]

pub own_is_at : (c now : ℕ) (x : Action) → IsOwn c now x → IsAt now x
own_is_at c now (Received d bytes) h = tt
own_is_at c now (Submitted d time line o) h = h.1
own_is_at c now (Sent d time bytes) h = h.1
own_is_at c now (Closed d time reason o) h = h.1
own_is_at c now (Accepted d time) h = elim h [ ]
own_is_at c now (Rejected d fault) h = elim h [ ]
own_is_at c now (Grown piece) h = elim h [ ]
own_is_at c now (Fed piece o) h = elim h [ ]
own_is_at c now (Ended name o) h = elim h [ ]
own_is_at c now (Waited busy clock) h = elim h [ ]

pub arrival_is_at : (now : ℕ) (x : Action) → IsArrival now x → IsAt now x
arrival_is_at now (Accepted d time) h = h
arrival_is_at now (Rejected d fault) h = tt
arrival_is_at now (Received d bytes) h = elim h [ ]
arrival_is_at now (Submitted d time line o) h = elim h [ ]
arrival_is_at now (Sent d time bytes) h = elim h [ ]
arrival_is_at now (Closed d time reason o) h = elim h [ ]
arrival_is_at now (Grown piece) h = elim h [ ]
arrival_is_at now (Fed piece o) h = elim h [ ]
arrival_is_at now (Ended name o) h = elim h [ ]
arrival_is_at now (Waited busy clock) h = elim h [ ]

differ : (k c d : ℕ) → (c == k) ≡ false → d ≡ c → (d == k) ≡ false
differ k c d h e = ap (λ n. n == k) e ∙ h

pub own_is_silent : (k c now : ℕ) → (c == k) ≡ false → (x : Action) → IsOwn c now x → replies_in k x ≡ 0
own_is_silent k c now n (Received d bytes) h = refl
own_is_silent k c now n (Submitted d time line o) h = ap (λ t. cond t (reply_count o) 0) (differ k c d n h.0)
own_is_silent k c now n (Sent d time bytes) h = refl
own_is_silent k c now n (Closed d time reason o) h = refl
own_is_silent k c now n (Accepted d time) h = elim h [ ]
own_is_silent k c now n (Rejected d fault) h = elim h [ ]
own_is_silent k c now n (Grown piece) h = elim h [ ]
own_is_silent k c now n (Fed piece o) h = elim h [ ]
own_is_silent k c now n (Ended name o) h = elim h [ ]
own_is_silent k c now n (Waited busy clock) h = elim h [ ]

same : (c d : ℕ) → d ≡ c → (d == c) ≡ true
same c d e = grind (arith, nat_tests, e)

pub own_is_of : (c now : ℕ) (x : Action) → IsOwn c now x → is_of c x ≡ true
own_is_of c now (Received d bytes) h = same c d h
own_is_of c now (Submitted d time line o) h = same c d h.0
own_is_of c now (Sent d time bytes) h = same c d h.0
own_is_of c now (Closed d time reason o) h = same c d h.0
own_is_of c now (Accepted d time) h = elim h [ ]
own_is_of c now (Rejected d fault) h = elim h [ ]
own_is_of c now (Grown piece) h = elim h [ ]
own_is_of c now (Fed piece o) h = elim h [ ]
own_is_of c now (Ended name o) h = elim h [ ]
own_is_of c now (Waited busy clock) h = elim h [ ]

-- ---- at most one reply is made until it is written

-- a line is handed in next
abbrev pub Submits : ℕ → LoopState → Type 0
Submits c d = option_map next_action (connection_of c d.connections) ≡ Some Submit

pub outcome_number : (o : Outcome) (rest : List ℕ) (now : ℕ) (t : Connection) → (after_outcome o rest now t).number ≡ t.number
outcome_number (Ok r) rest now t = refl
outcome_number (Err f) rest now t = refl

of_some : (o : Option Connection) (t : Connection) → o ≡ Some t → option_map next_action o ≡ Some (next_action t)
of_some o t h = ap (option_map next_action) h

of_none : (o : Option Connection) → o ≡ None → option_map next_action o ≡ Some Submit → ⊥
of_none o h k = never (sym (ap (option_map next_action) h) ∙ k)
  where
    never : None ≡ Some Submit → ⊥
    never e = cc

-- what a submission changes
pub submitted : (c now : ℕ) (line : List ℕ) (o : Outcome) (d e : LoopState) → IsTransition d (Submitted c now line o) e
    → (t : Connection) × (rest : List ℕ) × (connection_of c d.connections ≡ Some t) × (connection_of c e.connections ≡ Some (after_outcome o rest now t))
submitted c now line o d e h =
    let u = after_outcome o h.1 now h.0 in (
      h.0,
      h.1,
      h.2,
      ap (λ (x : LoopState). connection_of c x.connections) h.7
          ∙ connection_of-with_connection c u d.connections (ap (λ n. n == c) (outcome_number o h.1 now h.0) ∙ number_of c h.0 d.connections h.2)
          ∙ ap (option_map (λ _. u)) h.2,
    )

closed : (c now : ℕ) (d e : LoopState) (x : Action) → IsTransition d x e → IsSubmissionOf c now x → replies_in c x ≡ 0 → (Submits c d → ⊥) → Submits c e → ⊥
closed c now d e (Submitted k time line o) h own none never = λ s. never (subst (λ n. Submits n d) own.0 (of_some (connection_of k d.connections) h.0 h.2 ∙ ap (λ (a : NextAction). Some a) h.3))
closed c now d e (Closed k time reason o) h own none never =
    of_none (connection_of c e.connections) (ap (λ (x : LoopState). connection_of c x.connections) h.4 ∙ subst (λ n. connection_of n (without k d.connections) ≡ None) own.0 (connection_of-without k d.connections))
closed c now d e (Accepted j time) h own none never = elim own [ ]
closed c now d e (Rejected j fault) h own none never = elim own [ ]
closed c now d e (Received j bytes) h own none never = elim own [ ]
closed c now d e (Sent j time bytes) h own none never = elim own [ ]
closed c now d e (Grown piece) h own none never = elim own [ ]
closed c now d e (Fed piece o) h own none never = elim own [ ]
closed c now d e (Ended name o) h own none never = elim own [ ]
closed c now d e (Waited busy clock) h own none never = elim own [ ]

none_in : (c now : ℕ) (d e : LoopState) (x : Action) → IsTransition d x e → IsSubmissionOf c now x → (Submits c d → ⊥) → replies_in c x ≡ 0
none_in c now d e (Submitted k time line o) h own never = absurd (never (subst (λ n. Submits n d) own.0 (of_some (connection_of k d.connections) h.0 h.2 ∙ ap (λ (a : NextAction). Some a) h.3)))
none_in c now d e (Closed k time reason o) h own never = refl
none_in c now d e (Accepted j time) h own never = elim own [ ]
none_in c now d e (Rejected j fault) h own never = elim own [ ]
none_in c now d e (Received j bytes) h own never = elim own [ ]
none_in c now d e (Sent j time bytes) h own never = elim own [ ]
none_in c now d e (Grown piece) h own never = elim own [ ]
none_in c now d e (Fed piece o) h own never = elim own [ ]
none_in c now d e (Ended name o) h own never = elim own [ ]
none_in c now d e (Waited busy clock) h own never = elim own [ ]

none_more : (c now : ℕ) (d e : LoopState) (xs : List Action) → IsTrace d xs e → AreAll (IsSubmissionOf c now) xs → (Submits c d → ⊥) → replies_made c xs ≡ 0
none_more c now d e [] h own never = refl
none_more c now d e (x ∷ xs) h own never =
    let first = none_in c now d h.0 x h.1 own.0 never in
    omega (arith, first, none_more c now h.0 e xs h.2 own.1 (closed c now d h.0 x h.1 own.0 first never))

zero_one : ◌≡◌ {A = ℕ} 0 1 → ⊥
zero_one e = omega (arith, e)

-- after a reply no line is handed in
sends_next : (c now : ℕ) (line : List ℕ) (o : Outcome) (d e : LoopState) → IsTransition d (Submitted c now line o) e → reply_count o ≡ 1 → Submits c e → ⊥
sends_next c now line (Err f) d e h one = absurd (zero_one one)
sends_next c now line (Ok r) d e h one = at (is_nil r.bytes) refl one
  where
    never : Some Send ≡ Some Submit → ⊥
    never e = cc

    at : (b : Bool) → is_nil r.bytes ≡ b → ◌≡◌ {A = ℕ} (cond b 0 1) 1 → Submits c e → ⊥
    at true is k s = zero_one k
    at false is k s =
        let g = submitted c now line (Ok r) d e h in
        never (ap (λ (b : Bool). Some (cond b (cond r.close Close (cond (is_nil g.1) Receive Submit)) Send)) (sym is) ∙ sym (of_some (connection_of c e.connections) (after_outcome (Ok r) g.1 now g.0) g.3) ∙ s)

pub zero_or_one : (c : ℕ) (x : Action) → (replies_in c x ≡ 0) ⊎ (replies_in c x ≡ 1)
zero_or_one c (Accepted d time) = inl refl
zero_or_one c (Rejected d fault) = inl refl
zero_or_one c (Received d bytes) = inl refl
zero_or_one c (Submitted d time line o) = at (d == c) o
  where
    at : (b : Bool) (o : Outcome) → (cond b (reply_count o) 0 ≡ 0) ⊎ (cond b (reply_count o) 0 ≡ 1)
    at false o = inl refl
    at true (Err f) = inl refl
    at true (Ok r) = at_nil (is_nil r.bytes)
      where
        at_nil : (n : Bool) → (◌≡◌ {A = ℕ} (cond n 0 1) 0) ⊎ (◌≡◌ {A = ℕ} (cond n 0 1) 1)
        at_nil true = inl refl
        at_nil false = inr refl
zero_or_one c (Sent d time bytes) = inl refl
zero_or_one c (Closed d time reason o) = inl refl
zero_or_one c (Grown piece) = inl refl
zero_or_one c (Fed piece o) = inl refl
zero_or_one c (Ended name o) = inl refl
zero_or_one c (Waited busy clock) = inl refl

count_of : (c k : ℕ) (o : Outcome) → k ≡ c → cond (k == c) (reply_count o) 0 ≡ 1 → reply_count o ≡ 1
count_of c k o h e = ap (λ t. cond t (reply_count o) 0) (sym (same c k h)) ∙ e

no_more : (c now : ℕ) (d e : LoopState) (x : Action) → IsTransition d x e → IsSubmissionOf c now x → replies_in c x ≡ 1 → Submits c e → ⊥
no_more c now d e (Submitted k time line o) h own one =
    subst (λ n. Submits n e → ⊥) own.0 (sends_next k time line o d e h (count_of c k o own.0 one))
no_more c now d e (Closed k time reason o) h own one = absurd (zero_one one)
no_more c now d e (Accepted j time) h own one = elim own [ ]
no_more c now d e (Rejected j fault) h own one = elim own [ ]
no_more c now d e (Received j bytes) h own one = elim own [ ]
no_more c now d e (Sent j time bytes) h own one = elim own [ ]
no_more c now d e (Grown piece) h own one = elim own [ ]
no_more c now d e (Fed piece o) h own one = elim own [ ]
no_more c now d e (Ended name o) h own one = elim own [ ]
no_more c now d e (Waited busy clock) h own one = elim own [ ]

pub made_once : (c now : ℕ) (d e : LoopState) (xs : List Action) → IsTrace d xs e → AreAll (IsSubmissionOf c now) xs → replies_made c xs ≤ 1
made_once c now d e [] h own = omega arith
made_once c now d e (x ∷ xs) h own = at (zero_or_one c x) (made_once c now h.0 e xs h.2 own.1)
  where
    at : (replies_in c x ≡ 0) ⊎ (replies_in c x ≡ 1) → replies_made c xs ≤ 1 → replies_in c x + replies_made c xs ≤ 1
    at (inl none) more = omega (arith, none, more)
    at (inr one) more = omega (arith, one, none_more c now h.0 e xs h.2 own.1 (no_more c now d h.0 x h.1 own.0 one))

-- ---- the other connections

pub other_step : (k c now : ℕ) (d e : LoopState) (x : Action) → (c == k) ≡ false → IsTransition d x e → IsOwn c now x → connection_of k e.connections ≡ connection_of k d.connections
other_step k c now d e (Received j bytes) n h own =
    ap (λ (x : LoopState). connection_of k x.connections) h.4 ∙ connection_of_other-with_connection k j (record h.0 { unsubmitted = bytes }) d.connections (number_of j h.0 d.connections h.1) (differ k c j n own)
other_step k c now d e (Submitted j time line o) n h own =
    ap (λ (x : LoopState). connection_of k x.connections) h.7
    ∙ connection_of_other-with_connection k j (after_outcome o h.1 time h.0) d.connections (ap (λ m. m == j) (outcome_number o h.1 time h.0) ∙ number_of j h.0 d.connections h.2) (differ k c j n own.0)
other_step k c now d e (Sent j time bytes) n h own =
    ap (λ (x : LoopState). connection_of k x.connections) h.5 ∙ connection_of_other-with_connection k j (record h.0 { unsent = h.1; last_active = time }) d.connections (number_of j h.0 d.connections h.2) (differ k c j n own.0)
other_step k c now d e (Closed j time reason o) n h own =
    ap (λ (x : LoopState). connection_of k x.connections) h.4 ∙ connection_of_other-without k j d.connections (differ k c j n own.0)
other_step k c now d e (Accepted j time) n h own = elim own [ ]
other_step k c now d e (Rejected j fault) n h own = elim own [ ]
other_step k c now d e (Grown piece) n h own = elim own [ ]
other_step k c now d e (Fed piece o) n h own = elim own [ ]
other_step k c now d e (Ended name o) n h own = elim own [ ]
other_step k c now d e (Waited busy clock) n h own = elim own [ ]

pub others : (k c now : ℕ) (d e : LoopState) (xs : List Action) → (c == k) ≡ false → IsTrace d xs e → AreAll (IsOwn c now) xs → connection_of k e.connections ≡ connection_of k d.connections
others k c now d e [] n h own = ap (λ (x : LoopState). connection_of k x.connections) h
others k c now d e (x ∷ xs) n h own = others k c now h.0 e xs n h.2 own.1 ∙ other_step k c now d h.0 x n h.1 own.0

pub own_any : (c now : ℕ) (xs : List Action) → AreAll (IsOwn c now) xs → has_actions xs ≡ true → list_any (is_of c) xs ≡ true
own_any c now [] own h = absurd (false_true h)
  where
    false_true : false ≡ true → ⊥
    false_true e = cc
own_any c now (x ∷ xs) own h = ap (λ t. t || list_any (is_of c) xs) (own_is_of c now x own.0)

same_number : (k c d : ℕ) → d ≡ c → (d == k) ≡ true → c ≡ k
same_number k c d h e = sym h ∙ eqb-true d k e

own_is_alone : (k c now : ℕ) (x : Action) → IsOwn c now x → is_of k x ≡ true → c ≡ k
own_is_alone k c now (Received d bytes) h e = same_number k c d h e
own_is_alone k c now (Submitted d time line o) h e = same_number k c d h.0 e
own_is_alone k c now (Sent d time bytes) h e = same_number k c d h.0 e
own_is_alone k c now (Closed d time reason o) h e = same_number k c d h.0 e
own_is_alone k c now (Accepted d time) h e = elim h [ ]
own_is_alone k c now (Rejected d fault) h e = elim h [ ]
own_is_alone k c now (Grown piece) h e = elim h [ ]
own_is_alone k c now (Fed piece o) h e = elim h [ ]
own_is_alone k c now (Ended name o) h e = elim h [ ]
own_is_alone k c now (Waited busy clock) h e = elim h [ ]

-- only the connection itself has an action
pub own_alone : (k c now : ℕ) (xs : List Action) → AreAll (IsOwn c now) xs → list_any (is_of k) xs ≡ true → c ≡ k
own_alone k c now [] own h = absurd (false_true h)
  where
    false_true : false ≡ true → ⊥
    false_true e = cc
own_alone k c now (x ∷ xs) own h = at (is_of k x) refl h (own_alone k c now xs own.1)
  where
    at : (b : Bool) → is_of k x ≡ b → b || list_any (is_of k) xs ≡ true → (list_any (is_of k) xs ≡ true → c ≡ k) → c ≡ k
    at true e any later = own_is_alone k c now x own.0 e
    at false e any later = later any

-- ---- one connection

attends_fair : (c now : ℕ) (xs ys zs us vs : List Action) → AreAll (IsTransferOf c now) xs → AreAll (IsTransferOf c now) ys → replies_made c zs ≤ 1 → AreAll (IsTransferOf c now) us
    → AreAll (IsTransferOf c now) vs → replies_made c ((xs ++ ys) ++ (zs ++ (us ++ vs))) ≤ 1
attends_fair c now xs ys zs us vs x y z u v =
    let none : (l : List Action) → AreAll (IsTransferOf c now) l → replies_made c l ≡ 0 = λ l h. made_none c (IsTransferOf c now) (transfer_is_silent c c now) l h in
    omega (arith, made_both c (xs ++ ys) (zs ++ (us ++ vs)), made_both c xs ys, made_both c zs (us ++ vs), made_both c us vs, none xs x, none ys y, none us u, none vs v, z)

pub attends : (c now : ℕ) (s r m p k : Bool) (d0 d1 d2 d3 d4 d5 : LoopState) (l0 l1 l2 l3 l4 l5 : Option (List Transfer))
    → Performs (IsTransferOf c now) s d0 d1 l0 l1 → Performs (IsTransferOf c now) r d1 d2 l1 l2 → Performs (IsSubmissionOf c now) m d2 d3 l2 l3
    → Performs (IsTransferOf c now) p d3 d4 l3 l4 → Performs (IsTransferOf c now) k d4 d5 l4 l5
    → AttendsOne c now ((s || r) || (m || (p || k))) d0 d5 l0 l5
unfolding performs_on performs_as
attends c now s r m p k d0 d1 d2 d3 d4 d5 l0 l1 l2 l3 l4 l5 x y z u v =
    let Own = IsOwn c now in
    let to_own = transfer_is_own c now in
    let front = performs_on (IsTransferOf c now) s r d0 d1 d2 l0 l1 l2 x y in
    let back = performs_on (IsTransferOf c now) p k d3 d4 d5 l3 l4 l5 u v in
    let rest = performs_on Own m (p || k) d2 d3 d5 l2 l3 l5 (performs_as (IsSubmissionOf c now) Own m d2 d3 l2 l3 (submission_is_own c now) z) (performs_as (IsTransferOf c now) Own (p || k) d3 d5 l3 l5 to_own back) in
    let all = performs_on Own (s || r) (m || (p || k)) d0 d2 d5 l0 l2 l5 (performs_as (IsTransferOf c now) Own (s || r) d0 d2 l0 l2 to_own front) rest in
    record {
      trace = all.trace;
      is_trace = all.is_trace;
      logs = all.logs;
      follows = all.follows;
      own = all.kind;
      fair = attends_fair c now x.trace y.trace z.trace u.trace v.trace x.kind y.kind (made_once c now d2 d3 z.trace z.is_trace z.kind) u.kind v.kind;
      moves = all.moves;
    }

pub continues : (c now : ℕ) (m : Bool) (d e : LoopState) (a b : Option (List Transfer)) → AttendsOne c now m d e a b → ContinuesLoop d e a b
continues c now m d e a b x = record { trace = x.trace; is_trace = x.is_trace; logs = x.logs; follows = x.follows }

-- a connection that is due
pub due_moves : (c : ℕ) (s r m p k : Bool) (d0 d1 d2 d3 d4 : LoopState) → (s ≡ false → d1 ≡ d0) → (r ≡ false → d2 ≡ d1) → (m ≡ false → d3 ≡ d2) → (p ≡ false → d4 ≡ d3)
    → (Submits c d2 → m ≡ true) → (option_map next_action (connection_of c d4.connections) ≡ Some Close → k ≡ true) → IsDueAt c d0 → (s || r) || (m || (p || k)) ≡ true
due_moves c true r m p k d0 d1 d2 d3 d4 a b e f g h due = refl
due_moves c false true m p k d0 d1 d2 d3 d4 a b e f g h due = refl
due_moves c false false true p k d0 d1 d2 d3 d4 a b e f g h due = refl
due_moves c false false false true k d0 d1 d2 d3 d4 a b e f g h due = refl
due_moves c false false false false true d0 d1 d2 d3 d4 a b e f g h due = refl
due_moves c false false false false false d0 d1 d2 d3 d4 a b e f g h due = at (next_action due.0) refl due.2
  where
    here : option_map next_action (connection_of c d0.connections) ≡ Some (next_action due.0)
    here = of_some (connection_of c d0.connections) due.0 due.1

    false_true : false ≡ true → ⊥
    false_true e = cc

    to_two : d2 ≡ d0
    to_two = b refl ∙ a refl

    to_four : d4 ≡ d0
    to_four = f refl ∙ e refl ∙ to_two

    at : (n : NextAction) → next_action due.0 ≡ n → is_due_action n ≡ true → false ≡ true
    at Send is k = k
    at Receive is k = k
    at Submit is k = g (ap (λ (x : LoopState). option_map next_action (connection_of c x.connections)) to_two ∙ here ∙ ap (λ (n : NextAction). Some n) is)
    at Close is k = h (ap (λ (x : LoopState). option_map next_action (connection_of c x.connections)) to_four ∙ here ∙ ap (λ (n : NextAction). Some n) is)

pub either_of : (s r m p k a b e o : Bool) → a ≡ s || r → b ≡ p || k → e ≡ m || b → o ≡ a || e → o ≡ (s || r) || (m || (p || k))
either_of s r m p k a b e o h i j l = l ∙ ap (λ t. t || e) h ∙ ap (λ t. (s || r) || t) (j ∙ ap (λ t. m || t) i)

-- a line that may be handed in first is
pub submits_moves : (P : Action → Type 0) (c : ℕ) (m n : Bool) (d e : LoopState) (a b : Option (List Transfer)) → Performs P m d e a b → n ≡ false → (Submits c e → n ≡ true) → Submits c d → m ≡ true
submits_moves P c true n d e a b x none due h = refl
submits_moves P c false n d e a b x none due h = sym none ∙ due (ap (λ (x : LoopState). option_map next_action (connection_of c x.connections)) (still P false d e a b x refl) ∙ h)
