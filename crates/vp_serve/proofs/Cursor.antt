-- The next open connection in ascending order of their numbers, and those that are due.
use Rattle.std.proofs.Common.{◌≡◌, ◌==◌, ◌||◌, ◌++◌, ◌∷◌, ◌∙◌, ◌+◌, ◌≤◌, ◌<◌, ◌⊎◌, inl, inr, [], ℕ, List, Bool, true, false, Option, Some, None, cond, refl, ap, sym, subst, arith, suc, take, length, get_or}
use Rattle.std.specs.Prelude.{is_some}
use Rattle.std.proofs.Math.Seq.{take-suc}
use Rattle.std.specs.List.{list_any}
use Rattle.std.proofs.lemmas.Bool.Decides.{nat_tests}
use Rattle.vp_serve.specs.declared.connection.NextAction.{NextAction}
use Rattle.vp_serve.specs.declared.connection.NextAction.TheVariants.{Send, Submit, Receive, Close}
use Rattle.vp_serve.specs.Connection.{Connection}
use Rattle.vp_serve.specs.Connections.{connection_of, next_action}
use Rattle.vp_serve.specs.ServerLoop.{LoopState}
use Rattle.vp_serve.specs.ServerLoop.{AwaitsPeers}
use Rattle.vp_serve.specs.Turns.{IsNextOpen, is_due, is_due_action}
use Rattle.vp_serve.proofs.Changes.{first_of, connection_of-push}
use Rattle.vp_serve.proofs.OneConnection.{none_some, same_some}

-- a connection of another number changes nothing
push_other : (c : ℕ) (x : Connection) (xs : List Connection) → (x.number == c) ≡ false → connection_of c xs ≡ None → connection_of c (xs ++ x ∷ []) ≡ None
push_other c x xs h k = connection_of-push c x xs ∙ ap (λ (o : Option Connection). first_of o (cond (x.number == c) (Some x) None)) k ∙ ap (λ t. cond t (Some x) None) h

push_first : (o p : Option Connection) → is_some o ≡ true → is_some (first_of o p) ≡ true
push_first None p h = absurd (false_true h)
  where
    false_true : false ≡ true → ⊥
    false_true e = cc
push_first (Some t) p h = refl

still_some : (c : ℕ) (x : Connection) (xs : List Connection) → is_some (connection_of c xs) ≡ true → is_some (connection_of c (xs ++ x ∷ [])) ≡ true
still_some c x xs h = ap is_some (connection_of-push c x xs) ∙ push_first (connection_of c xs) (cond (x.number == c) (Some x) None) h

push_last : (o : Option Connection) (t : Connection) → is_some (first_of o (Some t)) ≡ true
push_last None t = refl
push_last (Some u) t = refl

now_some : (c : ℕ) (x : Connection) (xs : List Connection) → (x.number == c) ≡ true → is_some (connection_of c (xs ++ x ∷ [])) ≡ true
now_some c x xs h = ap is_some (connection_of-push c x xs ∙ ap (λ t. first_of (connection_of c xs) (cond t (Some x) None)) h) ∙ push_last (connection_of c xs) x

-- a number below `from`
pub below_from : (from n : ℕ) (next : Option ℕ) (x : Connection) (xs : List Connection) → IsNextOpen from xs next → x.number ≡ n → n < from → IsNextOpen from (xs ++ x ∷ []) next
below_from from n None x xs h is less = λ c above. push_other c x xs (apart c above) (h c above)
  where
    apart : (c : ℕ) → from ≤ c → (x.number == c) ≡ false
    apart c above = grind (arith, nat_tests, is, less, above)
below_from from n (Some m) x xs h is less = (h.0, still_some m x xs h.1, λ c above under. push_other c x xs (apart c above) (h.2 c above under))
  where
    apart : (c : ℕ) → from ≤ c → (x.number == c) ≡ false
    apart c above = grind (arith, nat_tests, is, less, above)

-- a number that is no less than the smallest one so far
pub above_best : (from n m : ℕ) (x : Connection) (xs : List Connection) → IsNextOpen from xs (Some m) → x.number ≡ n → m ≤ n → IsNextOpen from (xs ++ x ∷ []) (Some m)
above_best from n m x xs h is more = (h.0, still_some m x xs h.1, λ c above under. push_other c x xs (apart c under) (h.2 c above under))
  where
    apart : (c : ℕ) → c < m → (x.number == c) ≡ false
    apart c under = grind (arith, nat_tests, is, more, under)

-- one that is less
pub below_best : (from n m : ℕ) (x : Connection) (xs : List Connection) → IsNextOpen from xs (Some m) → x.number ≡ n → from ≤ n → n < m → IsNextOpen from (xs ++ x ∷ []) (Some n)
below_best from n m x xs h is above less = (above, now_some n x xs (grind (arith, nat_tests, is)), λ c le under. push_other c x xs (apart c under) (h.2 c le (omega (arith, under, less))))
  where
    apart : (c : ℕ) → c < n → (x.number == c) ≡ false
    apart c under = grind (arith, nat_tests, is, under)

-- the first one
pub first_best : (from n : ℕ) (x : Connection) (xs : List Connection) → IsNextOpen from xs None → x.number ≡ n → from ≤ n → IsNextOpen from (xs ++ x ∷ []) (Some n)
first_best from n x xs h is above = (above, now_some n x xs (grind (arith, nat_tests, is)), λ c le under. push_other c x xs (apart c under) (h c le))
  where
    apart : (c : ℕ) → c < n → (x.number == c) ≡ false
    apart c under = grind (arith, nat_tests, is, under)

-- one connection more
pub next_open_more : (from i : ℕ) (xs : List Connection) (x : Connection) {n : ℕ} (next more : Option ℕ) → x ≡ get_or xs i x → i < length xs → IsNextOpen from (take i xs) next
    → ((ys : List Connection) → IsNextOpen from ys next → (y : Connection) → y.number ≡ n → IsNextOpen from (ys ++ y ∷ []) more) → x.number ≡ n → IsNextOpen from (take (i + 1) xs) more
next_open_more from i xs x next more is less before step number =
    let e : i + 1 ≡ suc i = omega arith in
    subst (λ (ys : List Connection). IsNextOpen from ys more)
    (ap (λ (y : Connection). take i xs ++ y ∷ []) is ∙ sym (take-suc xs i x less) ∙ ap (λ n. take n xs) (sym e))
    (step (take i xs) before x number)

-- ---- those that are due

not_due : (t : Connection) → is_due t ≡ false → (next_action t ≡ Send) ⊎ (next_action t ≡ Receive)
not_due t h = at (next_action t) refl h
  where
    true_false : true ≡ false → ⊥
    true_false e = cc

    at : (n : NextAction) → next_action t ≡ n → is_due_action n ≡ false → (next_action t ≡ Send) ⊎ (next_action t ≡ Receive)
    at Send is k = inl is
    at Receive is k = inr is
    at Submit is k = absurd (true_false k)
    at Close is k = absurd (true_false k)

or_false : (a b : Bool) → a || b ≡ false → (a ≡ false) × (b ≡ false)
or_false true b h = absurd (true_false h)
  where
    true_false : true ≡ false → ⊥
    true_false e = cc
or_false false b h = (refl, h)

found : (c : ℕ) (t : Connection) (xs : List Connection) → list_any is_due xs ≡ false → connection_of c xs ≡ Some t → is_due t ≡ false
found c t [] h k = absurd (none_some t k)
found c t (x ∷ xs) h k =
    let both = or_false (is_due x) (list_any is_due xs) h in
    at (x.number == c) both.0 (found c t xs both.1) k
  where
    at : (b : Bool) → is_due x ≡ false → (connection_of c xs ≡ Some t → is_due t ≡ false) → cond b (Some x) (connection_of c xs) ≡ Some t → is_due t ≡ false
    at true here more k = ap is_due (sym (same_some x t k)) ∙ here
    at false here more k = more k

pub awaits_peers : (d : LoopState) (xs : List Connection) (b : Bool) → xs ≡ d.connections → b ≡ list_any is_due xs → b ≡ false → AwaitsPeers d
awaits_peers d xs b same any none = λ c t there. not_due t (found c t d.connections (ap (list_any is_due) (sym same) ∙ sym any ∙ none) there)
