-- Each connection along every trace.
use Rattle.std.proofs.Common.{◌≡◌, ◌==◌, ◌++◌, ◌∷◌, ◌+◌, ◌≤◌, ◌<◌, nat_lt, ◌∙◌, ◌⊎◌, [], ℕ, List, Bool, true, false, not, ◌||◌, Option, Some, None, Ok, Err, cond, refl, ap, sym, subst, append_assoc, append-nil, arith, option_map, flat_map, inl, inr}
use Rattle.std.proofs.lemmas.Bool.{eqb-true}
use Rattle.std.proofs.lemmas.Bool.Decides.{nat_tests}
use Rattle.vp_hub.specs.Hub.{Outcome, HubState}
use Rattle.vp_serve.specs.declared.connection.NextAction.TheVariants.{Send, Submit, Receive, Close}
use Rattle.vp_serve.specs.declared.options.ServeOptions.{ServeOptions}
use Rattle.vp_serve.specs.declared.reason.CloseReason.{CloseReason}
use Rattle.vp_serve.specs.declared.reason.CloseReason.TheVariants.{Finished, PeerEnded, IdleTimeout, OutOfMemory, TransferFailed, HubRefused}
use Rattle.vp_serve.specs.Connection.{Connection}
use Rattle.vp_serve.specs.Connections.{connection_of, with_connection, without, new_connection, next_action, is_nil, after_outcome}
use Rattle.vp_serve.specs.Reasons.{IsReason, IsClosedByHub, is_abort}
use Rattle.vp_serve.specs.ServerLoop.{LoopState, initial, Action, Accepted, Rejected, Received, Submitted, Sent, Closed, Grown, Fed, Ended, Waited, IsTransition, IsTrace}
use Rattle.vp_serve.specs.Transport.{transfers_of}
use Rattle.vp_serve.specs.Laws.{own_change, has_ended, ends_in, submitted_replies, read_in, written_in, submitted_in, replied_in, BytesAreServed}
use Rattle.vp_serve.proofs.Changes.{first_of, connection_of-push, connection_of-with_connection, connection_of_other-with_connection, connection_of-without, connection_of_other-without}
use Rattle.vp_serve.proofs.OneConnection.{Holds, IsApart, apart, moves, number_of, no_some, none_some, same_some, true_false, more_read, more_replied, ended_more}

-- ---- the tests

nil_is : (l : List ℕ) → is_nil l ≡ true → l ≡ []
nil_is [] h = refl
nil_is (b ∷ bs) h = cc

pub reads_next : (t : Connection) → next_action t ≡ Receive → (t.unsubmitted ≡ []) × (t.unsent ≡ []) × (t.closing ≡ false)
reads_next t h = at (is_nil t.unsent) t.closing (is_nil t.unsubmitted) refl refl refl h
  where
    at : (a b k : Bool) → is_nil t.unsent ≡ a → t.closing ≡ b → is_nil t.unsubmitted ≡ k → cond a (cond b Close (cond k Receive Submit)) Send ≡ Receive → (t.unsubmitted ≡ []) × (t.unsent ≡ []) × (t.closing ≡ false)
    at false b k ha hb hk e = cc
    at true true k ha hb hk e = cc
    at true false false ha hb hk e = cc
    at true false true ha hb hk e = (nil_is t.unsubmitted hk, nil_is t.unsent ha, hb)

pub submits_next : (t : Connection) → next_action t ≡ Submit → (t.unsent ≡ []) × (t.closing ≡ false)
submits_next t h = at (is_nil t.unsent) t.closing (is_nil t.unsubmitted) refl refl refl h
  where
    at : (a b k : Bool) → is_nil t.unsent ≡ a → t.closing ≡ b → is_nil t.unsubmitted ≡ k → cond a (cond b Close (cond k Receive Submit)) Send ≡ Submit → (t.unsent ≡ []) × (t.closing ≡ false)
    at false b k ha hb hk e = cc
    at true true k ha hb hk e = cc
    at true false false ha hb hk e = (nil_is t.unsent ha, hb)
    at true false true ha hb hk e = cc

own_same : (c d : ℕ) (bytes : List ℕ) → (d == c) ≡ true → own_change c d bytes ≡ bytes
own_same c d bytes h = ap (λ b. cond b bytes []) h

own_other : (c d : ℕ) (bytes : List ℕ) → (d == c) ≡ false → own_change c d bytes ≡ []
own_other c d bytes h = ap (λ b. cond b bytes []) h

by_own : (c d : ℕ) (A : Type 0) → ((d == c) ≡ true → A) → ((d == c) ≡ false → A) → A
by_own c d A f g = at (d == c) f g
  where
    at : (b : Bool) → (b ≡ true → A) → (b ≡ false → A) → A
    at true f g = f refl
    at false f g = g refl

at_same : (c d : ℕ) (xs : List Connection) (t : Connection) → (d == c) ≡ true → connection_of d xs ≡ Some t → connection_of c xs ≡ Some t
at_same c d xs t e h = subst (λ k. connection_of k xs ≡ Some t) (eqb-true d c e) h

there_then : (c d : ℕ) (t u : Connection) (xs : List Connection) → (d == c) ≡ true → connection_of d xs ≡ Some t → (u.number == d) ≡ true → connection_of c (with_connection d u xs) ≡ Some u
there_then c d t u xs e h n = at_same c d (with_connection d u xs) u e (connection_of-with_connection d u xs n ∙ ap (option_map (λ _. u)) h)

-- ---- each kind

one_received : (c : ℕ) (xs : List Action) (d e : LoopState) (k : ℕ) (bytes : List ℕ) → Holds c xs d → IsTransition d (Received k bytes) e → Holds c (xs ++ Received k bytes ∷ []) e
one_received c xs d e k bytes holds (t, there, next, small, is) =
    let u : Connection = record t { unsubmitted = bytes } in
    let n : (u.number == k) ≡ true = number_of k t d.connections there in
    let empty = reads_next t next in
    by_own c k (Holds c (xs ++ Received k bytes ∷ []) e)
    (λ o. moves c xs (Received k bytes) d e t u holds (record {
      there = at_same c k d.connections t o there;
      then = ap (λ (x : LoopState). connection_of c x.connections) is ∙ there_then c k t u d.connections o there n;
      reads = ap (λ (l : List ℕ). l ++ (own_change c k bytes ++ [])) empty.0 ∙ append-nil (own_change c k bytes) ∙ own_same c k bytes o;
      replies = append-nil t.unsent;
      ends = refl;
      next = ap (λ (x : LoopState). x.next) is;
    }))
    (λ o. apart c xs (Received k bytes) d e holds (record {
      reads = append-nil (own_change c k bytes) ∙ own_other c k bytes o;
      writes = refl;
      submits = refl;
      replies = refl;
      ends = refl;
      same = ap (λ (x : LoopState). connection_of c x.connections) is ∙ connection_of_other-with_connection c k u d.connections n o;
      next = omega (arith, ap (λ (x : LoopState). x.next) is);
    }))

outcome_unread : (o : Outcome) (rest : List ℕ) (now : ℕ) (t : Connection) → (after_outcome o rest now t).unsubmitted ≡ rest
outcome_unread (Ok r) rest now t = refl
outcome_unread (Err f) rest now t = refl

outcome_unsent : (o : Outcome) (rest : List ℕ) (now : ℕ) (t : Connection) → (after_outcome o rest now t).unsent ≡ submitted_replies o
outcome_unsent (Ok r) rest now t = refl
outcome_unsent (Err f) rest now t = refl

outcome_number : (o : Outcome) (rest : List ℕ) (now : ℕ) (t : Connection) → (after_outcome o rest now t).number ≡ t.number
outcome_number (Ok r) rest now t = refl
outcome_number (Err f) rest now t = refl

one_submitted : (c : ℕ) (xs : List Action) (d e : LoopState) (k now : ℕ) (piece : List ℕ) (o : Outcome) → Holds c xs d → IsTransition d (Submitted k now piece o) e → Holds c (xs ++ Submitted k now piece o ∷ []) e
one_submitted c xs d e k now piece o holds (t, rest, there, next, unsubmitted, is_line, step, is) =
    let u : Connection = after_outcome o rest now t in
    let n : (u.number == k) ≡ true = ap (λ (m : ℕ). m == k) (outcome_number o rest now t) ∙ number_of k t d.connections there in
    by_own c k (Holds c (xs ++ Submitted k now piece o ∷ []) e)
    (λ w. moves c xs (Submitted k now piece o) d e t u holds (record {
      there = at_same c k d.connections t w there;
      then = ap (λ (x : LoopState). connection_of c x.connections) is ∙ there_then c k t u d.connections w there n;
      reads = append-nil t.unsubmitted ∙ unsubmitted ∙ sym (ap (λ (l : List ℕ). l ++ u.unsubmitted) (append-nil (own_change c k piece) ∙ own_same c k piece w) ∙ ap (λ (l : List ℕ). piece ++ l) (outcome_unread o rest now t));
      replies = ap (λ (l : List ℕ). l ++ (own_change c k (submitted_replies o) ++ [])) (submits_next t next).0 ∙ append-nil (own_change c k (submitted_replies o)) ∙ own_same c k (submitted_replies o) w ∙ sym (outcome_unsent o rest now t);
      ends = refl;
      next = ap (λ (x : LoopState). x.next) is;
    }))
    (λ w. apart c xs (Submitted k now piece o) d e holds (record {
      reads = refl;
      writes = refl;
      submits = own_other c k piece w;
      replies = own_other c k (submitted_replies o) w;
      ends = refl;
      same = ap (λ (x : LoopState). connection_of c x.connections) is ∙ connection_of_other-with_connection c k u d.connections n w;
      next = omega (arith, ap (λ (x : LoopState). x.next) is);
    }))

one_sent : (c : ℕ) (xs : List Action) (d e : LoopState) (k now : ℕ) (bytes : List ℕ) → Holds c xs d → IsTransition d (Sent k now bytes) e → Holds c (xs ++ Sent k now bytes ∷ []) e
one_sent c xs d e k now bytes holds (t, rest, there, next, unsent, is) =
    let u : Connection = record t { unsent = rest; last_active = now } in
    let n : (u.number == k) ≡ true = number_of k t d.connections there in
    by_own c k (Holds c (xs ++ Sent k now bytes ∷ []) e)
    (λ o. moves c xs (Sent k now bytes) d e t u holds (record {
      there = at_same c k d.connections t o there;
      then = ap (λ (x : LoopState). connection_of c x.connections) is ∙ there_then c k t u d.connections o there n;
      reads = append-nil t.unsubmitted;
      replies = append-nil t.unsent ∙ unsent ∙ ap (λ (l : List ℕ). l ++ rest) (sym (append-nil (own_change c k bytes) ∙ own_same c k bytes o));
      ends = refl;
      next = ap (λ (x : LoopState). x.next) is;
    }))
    (λ o. apart c xs (Sent k now bytes) d e holds (record {
      reads = refl;
      writes = append-nil (own_change c k bytes) ∙ own_other c k bytes o;
      submits = refl;
      replies = refl;
      ends = refl;
      same = ap (λ (x : LoopState). connection_of c x.connections) is ∙ connection_of_other-with_connection c k u d.connections n o;
      next = omega (arith, ap (λ (x : LoopState). x.next) is);
    }))

-- it is accepted
accepted_own : (c : ℕ) (xs : List Action) (d e : LoopState) (now : ℕ) → c ≡ d.next → Holds c xs d → IsTransition d (Accepted c now) e → Holds c (xs ++ Accepted c now ∷ []) e
accepted_own c xs d e now is holds h =
    let l = holds.later (omega (arith, is)) in
    let u = new_connection c now in
    let same : (c == c) ≡ true = grind (arith, nat_tests) in
    let then : connection_of c e.connections ≡ Some u = ap (λ (x : LoopState). connection_of c x.connections) h.3 ∙ connection_of-push c u d.connections ∙ ap (λ a. first_of a (cond (c == c) (Some u) None)) l.0 ∙ ap (λ b. cond b (Some u) None) same in
    let not_ended : has_ended c (xs ++ Accepted c now ∷ []) ≡ false = ended_more c xs (Accepted c now) ∙ ap (λ b. b || false) l.3 in
    let never : has_ended c (xs ++ Accepted c now ∷ []) ≡ true → ⊥ = λ k. true_false (sym k ∙ not_ended) in
    let big : e.next ≡ c + 1 = ap (λ (x : LoopState). x.next) h.3 in
    record {
      unsubmitted = [];
      unsent = [];
      read = more_read c xs (Accepted c now) holds.unsubmitted [] holds.read (ap (λ (x : List ℕ). x ++ []) l.1);
      replied = more_replied c xs (Accepted c now) holds.unsent [] holds.replied (ap (λ (x : List ℕ). x ++ []) l.2);
      open_now = λ t k. let s = same_some u t (sym then ∙ k) in (ap (λ (x : Connection). x.unsubmitted) (sym s), ap (λ (x : Connection). x.unsent) (sym s));
      ended = λ k. absurd (never k);
      later = λ k. absurd (omega (arith, big, k));
      gone = λ k. absurd (never k);
    }

first_none : (a : Option Connection) → first_of a None ≡ a
first_none None = refl
first_none (Some a) = refl

one_accepted : (c : ℕ) (xs : List Action) (d e : LoopState) (k now : ℕ) → Holds c xs d → IsTransition d (Accepted k now) e → Holds c (xs ++ Accepted k now ∷ []) e
one_accepted c xs d e k now holds h =
    by_own c k (Holds c (xs ++ Accepted k now ∷ []) e)
    (λ o. let same = eqb-true k c o in
    subst (λ j. IsTransition d (Accepted j now) e → Holds c (xs ++ Accepted j now ∷ []) e) (sym same)
    (λ w. accepted_own c xs d e now w.0 holds w) h)
    (λ o. apart c xs (Accepted k now) d e holds (record {
      reads = refl;
      writes = refl;
      submits = refl;
      replies = refl;
      ends = refl;
      same = ap (λ (x : LoopState). connection_of c x.connections) h.3 ∙ connection_of-push c (new_connection k now) d.connections ∙ ap (λ b. first_of (connection_of c d.connections) (cond b (Some (new_connection k now)) None)) o ∙ first_none (connection_of c d.connections);
      next = omega (arith, h.0, ap (λ (x : LoopState). x.next) h.3);
    }))

-- it is closed
not_false : (b : Bool) → not b ≡ true → b ≡ false
not_false true h = sym h
not_false false h = refl

or_true : (a b : Bool) → (a ≡ true → ⊥) → a || b ≡ true → b ≡ true
or_true true b f h = absurd (f refl)
or_true false b f h = h

-- a connection that is closed and not aborted has no bytes left to write
close_next : (t : Connection) → next_action t ≡ Close → t.unsent ≡ []
close_next t h = at (is_nil t.unsent) t.closing (is_nil t.unsubmitted) refl h
  where
    at : (a b k : Bool) → is_nil t.unsent ≡ a → cond a (cond b Close (cond k Receive Submit)) Send ≡ Close → t.unsent ≡ []
    at false b k ha e = cc
    at true b k ha e = nil_is t.unsent ha

all_sent : (options : ServeOptions) (now : ℕ) (t : Connection) (reason : CloseReason) → IsReason options now t reason → is_abort reason ≡ false → t.unsent ≡ []
all_sent options now t Finished h k = close_next t h.0
all_sent options now t HubRefused h k = close_next t h.0
all_sent options now t OutOfMemory h k = at h
  where
    at : IsClosedByHub t OutOfMemory ⊎ ((next_action t ≡ Submit) ⊎ (next_action t ≡ Receive)) → t.unsent ≡ []
    at (inl e) = close_next t e.0
    at (inr (inl e)) = (submits_next t e).0
    at (inr (inr e)) = (reads_next t e).1
all_sent options now t PeerEnded h k = (reads_next t h).1
all_sent options now t IdleTimeout h k = absurd (true_false k)
all_sent options now t TransferFailed h k = absurd (true_false k)

closing_reads : (c k now : ℕ) (reason : CloseReason) (o : Outcome) → flat_map (read_in c) (transfers_of (Closed k now reason o) ++ []) ≡ []
closing_reads c k now Finished o = refl
closing_reads c k now PeerEnded o = refl
closing_reads c k now IdleTimeout o = refl
closing_reads c k now OutOfMemory o = refl
closing_reads c k now TransferFailed o = refl
closing_reads c k now HubRefused o = refl

closing_writes : (c k now : ℕ) (reason : CloseReason) (o : Outcome) → flat_map (written_in c) (transfers_of (Closed k now reason o) ++ []) ≡ []
closing_writes c k now Finished o = refl
closing_writes c k now PeerEnded o = refl
closing_writes c k now IdleTimeout o = refl
closing_writes c k now OutOfMemory o = refl
closing_writes c k now TransferFailed o = refl
closing_writes c k now HubRefused o = refl

one_closed : (c : ℕ) (xs : List Action) (d e : LoopState) (k now : ℕ) (reason : CloseReason) (o : Outcome) → Holds c xs d → IsTransition d (Closed k now reason o) e
    → Holds c (xs ++ Closed k now reason o ∷ []) e
one_closed c xs d e k now reason o holds (t, there, is_reason, step, is) =
    let x = Closed k now reason o in
    by_own c k (Holds c (xs ++ x ∷ []) e)
    (λ w.
    let here : connection_of c d.connections ≡ Some t = at_same c k d.connections t w there in
    let none : connection_of c e.connections ≡ None = ap (λ (x : LoopState). connection_of c x.connections) is ∙ subst (λ j. connection_of j (without k d.connections) ≡ None) (eqb-true k c w) (connection_of-without k d.connections) in
    let orderly : has_ended c (xs ++ x ∷ []) ≡ true → is_abort reason ≡ false = λ h.
    not_false (is_abort reason) (sym (ap (λ b. cond b (not (is_abort reason)) false) w)
    ∙ or_true (has_ended c xs) (ends_in c x) (λ y. no_some (connection_of c d.connections) t (holds.gone y) here) (sym (ended_more c xs x) ∙ h)) in
    record {
      unsubmitted = holds.unsubmitted;
      unsent = holds.unsent;
      read = more_read c xs x holds.unsubmitted holds.unsubmitted holds.read (ap (λ (l : List ℕ). holds.unsubmitted ++ l) (closing_reads c k now reason o) ∙ append-nil holds.unsubmitted);
      replied = more_replied c xs x holds.unsent holds.unsent holds.replied (append-nil holds.unsent ∙ sym (ap (λ (l : List ℕ). l ++ holds.unsent) (closing_writes c k now reason o)));
      open_now = λ u y. absurd (no_some (connection_of c e.connections) u none y);
      ended = λ y. sym (holds.open_now t here).1 ∙ all_sent d.options now t reason is_reason (orderly y);
      later = λ y. absurd (no_some (connection_of c d.connections) t (holds.later (omega (arith, ap (λ (x : LoopState). x.next) is, y))).0 here);
      gone = λ y. none;
    })
    (λ w. apart c xs x d e holds (record {
      reads = closing_reads c k now reason o;
      writes = closing_writes c k now reason o;
      submits = refl;
      replies = refl;
      ends = ap (λ b. cond b (not (is_abort reason)) false) w;
      same = ap (λ (x : LoopState). connection_of c x.connections) is ∙ connection_of_other-without c k d.connections w;
      next = omega (arith, ap (λ (x : LoopState). x.next) is);
    }))

-- no connection is changed
still : (c : ℕ) (d e : LoopState) (x : Action) → flat_map (read_in c) (transfers_of x ++ []) ≡ [] → flat_map (written_in c) (transfers_of x ++ []) ≡ [] → submitted_in c x ≡ []
    → replied_in c x ≡ [] → ends_in c x ≡ false → connection_of c e.connections ≡ connection_of c d.connections → e.next ≡ d.next → IsApart c x d e
still c d e x reads writes submits replies ends same next = record {
  reads = reads;
  writes = writes;
  submits = submits;
  replies = replies;
  ends = ends;
  same = same;
  next = omega (arith, next);
}

one : (c : ℕ) (xs : List Action) (d e : LoopState) (x : Action) → Holds c xs d → IsTransition d x e → Holds c (xs ++ x ∷ []) e
one c xs d e (Accepted k now) holds h = one_accepted c xs d e k now holds h
one c xs d e (Rejected k fault) holds h = apart c xs (Rejected k fault) d e holds (record {
  reads = refl;
  writes = refl;
  submits = refl;
  replies = refl;
  ends = refl;
  same = ap (λ (x : LoopState). connection_of c x.connections) h.3;
  next = omega (arith, h.0, ap (λ (x : LoopState). x.next) h.3);
})
one c xs d e (Received k bytes) holds h = one_received c xs d e k bytes holds h
one c xs d e (Submitted k now line o) holds h = one_submitted c xs d e k now line o holds h
one c xs d e (Sent k now bytes) holds h = one_sent c xs d e k now bytes holds h
one c xs d e (Closed k now reason o) holds h = one_closed c xs d e k now reason o holds h
one c xs d e (Grown piece) holds h =
    apart c xs (Grown piece) d e holds (still c d e (Grown piece) refl refl refl refl refl (ap (λ (x : LoopState). connection_of c x.connections) h.1) (ap (λ (x : LoopState). x.next) h.1))
one c xs d e (Fed piece o) holds h =
    apart c xs (Fed piece o) d e holds (still c d e (Fed piece o) refl refl refl refl refl (ap (λ (x : LoopState). connection_of c x.connections) h.2) (ap (λ (x : LoopState). x.next) h.2))
one c xs d e (Ended name o) holds h =
    apart c xs (Ended name o) d e holds (still c d e (Ended name o) refl refl refl refl refl (ap (λ (x : LoopState). connection_of c x.connections) h.2) (ap (λ (x : LoopState). x.next) h.2))
one c xs d e (Waited busy clock) holds h =
    apart c xs (Waited busy clock) d e holds (still c d e (Waited busy clock) refl refl refl refl refl (ap (λ (x : LoopState). connection_of c x.connections) h.1) (ap (λ (x : LoopState). x.next) h.1))

along : (c : ℕ) (xs ys : List Action) (d e : LoopState) → Holds c xs d → IsTrace d ys e → Holds c (xs ++ ys) e
along c xs [] d e holds h = subst (λ (x : LoopState). Holds c (xs ++ []) x) (sym h) (subst (λ (l : List Action). Holds c l d) (sym (append-nil xs)) holds)
along c xs (k ∷ ys) d e holds h =
    subst (λ (l : List Action). Holds c l e) (append_assoc xs (k ∷ []) ys) (along c (xs ++ k ∷ []) ys h.0 e (one c xs d h.0 k holds h.1) h.2)

first : (c : ℕ) (options : ServeOptions) (s : HubState) → Holds c [] (initial options s)
first c options s = record {
  unsubmitted = [];
  unsent = [];
  read = refl;
  replied = refl;
  open_now = λ t h. absurd (none_some t h);
  ended = λ _. refl;
  later = λ _. (refl, refl, refl, refl);
  gone = λ _. refl;
}

-- an open connection has a number that was given
pub given : (options : ServeOptions) (s : HubState) (xs : List Action) (d : LoopState) → IsTrace (initial options s) xs d → (c : ℕ) (t : Connection) → connection_of c d.connections ≡ Some t → c < d.next
given options s xs d h c t there = at (nat_lt c d.next) refl
  where
    at : (b : Bool) → nat_lt c d.next ≡ b → c < d.next
    at true less = grind (arith, nat_tests, less)
    at false less =
        let above : d.next ≤ c = grind (arith, nat_tests, less) in
        absurd (no_some (connection_of c d.connections) t ((along c [] xs (initial options s) d (first c options s) h).later above).0 there)

pub served : BytesAreServed
served options s xs d h c =
    let holds = along c [] xs (initial options s) d (first c options s) h in
    record {
      unsubmitted = holds.unsubmitted;
      unsent = holds.unsent;
      read = holds.read;
      replied = holds.replied;
      open_now = holds.open_now;
      ended = holds.ended;
    }
