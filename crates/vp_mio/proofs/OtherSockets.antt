-- Which sockets a call leaves open, and what the others are ready for after it.
use Rattle.std.proofs.Common.{◌+◌, ◌≡◌, ◌≢◌, ◌==◌, ◌||◌, ◌++◌, ◌∷◌, ◌∙◌, [], ℕ, List, Some, None, Bool, true, false, refl, ap, sym, subst, cond, not, get_or, set, length, suc, nat_lt, arith}
use Rattle.std.specs.Option.{is_some}
use Rattle.std.specs.List.{position, position_or_len, remove}
use Rattle.std.proofs.lemmas.Bool.Decides.{nat_tests}
use Rattle.vp_serve.specs.Readiness.{Readiness}
use Rattle.vp_mio.specs.Sockets.{OpenSocket, readiness_of, has_socket, AreDistinct, AreAsOpen, OthersStay}
use Rattle.vp_mio.proofs.OpenSockets.{is_of, socket_of, with_socket, without_socket, place-some, there, with-has, same_some, or_false, or_both, equal}

-- a number that is c is no other one
not_other : (a c k : ℕ) → (a == c) ≡ true → k ≢ c → (a == k) ≡ false
not_other a c k h ne = grind (arith, nat_tests, h, ne)

own : (a : ℕ) → (a == a) ≡ true
own a = grind (arith, nat_tests)

-- ---- another socket in the place of one

with-ready : (c k : ℕ) (t u : OpenSocket) (xs : List OpenSocket) → k ≢ c → socket_of c xs ≡ Some t → u.number ≡ t.number → readiness_of (with_socket c u xs) k ≡ readiness_of xs k
with-ready c k t u [] ne h same = refl
with-ready c k t u (x ∷ xs) ne h same = step (with-ready c k t u xs ne) (x.number == c) refl h
  where
    step : (socket_of c xs ≡ Some t → u.number ≡ t.number → readiness_of (with_socket c u xs) k ≡ readiness_of xs k) → (b : Bool) → (x.number == c) ≡ b → cond b (Some x) (socket_of c xs) ≡ Some t
        → readiness_of (cond b (u ∷ xs) (x ∷ with_socket c u xs)) k ≡ cond (x.number == k) x.ready (readiness_of xs k)
    step more true e is =
        let old : (x.number == k) ≡ false = not_other x.number c k e ne in
        let new : (u.number == k) ≡ false = ap (λ n. n == k) (same ∙ ap (λ (y : OpenSocket). y.number) (sym (same_some x t is))) ∙ old in
        ap (λ b. cond b u.ready (readiness_of xs k)) new ∙ sym (ap (λ b. cond b x.ready (readiness_of xs k)) old)
    step more false e is = ap (λ (r : Readiness). cond (x.number == k) x.ready r) (more is same)

pub set-open : (c i : ℕ) (xs : List OpenSocket) (t u : OpenSocket) → Some i ≡ position (is_of c) xs → t ≡ get_or xs i t → u.number ≡ t.number → AreAsOpen xs (set xs i u)
set-open c i xs t u place is same =
    subst (λ (ys : List OpenSocket). AreAsOpen xs ys) ((place-some c xs i place).set u) (λ k. with-has c k t u xs (there c i xs t place is) same)

pub set-others : (c i : ℕ) (xs : List OpenSocket) (t u : OpenSocket) → Some i ≡ position (is_of c) xs → t ≡ get_or xs i t → u.number ≡ t.number → OthersStay c xs (set xs i u)
set-others c i xs t u place is same =
    let found = there c i xs t place is in
    subst (λ (ys : List OpenSocket). OthersStay c xs ys) ((place-some c xs i place).set u) (λ k ne. (with-has c k t u xs found same, with-ready c k t u xs ne found same))

-- ---- whether there is one

has-below : (c : ℕ) (xs : List OpenSocket) → nat_lt (position_or_len (is_of c) xs) (length xs) ≡ has_socket c xs
has-below c [] = refl
has-below c (x ∷ xs) = step (has-below c xs) (is_of c x)
  where
    step : nat_lt (position_or_len (is_of c) xs) (length xs) ≡ has_socket c xs → (b : Bool)
        → nat_lt (cond (not b) (1 + position_or_len (is_of c) xs) 0) (suc (length xs)) ≡ b || has_socket c xs
    step e true = grind (arith, nat_tests)
    step e false = shift (position_or_len (is_of c) xs) (length xs) ∙ e
      where
        shift : (m n : ℕ) → nat_lt (1 + m) (suc n) ≡ nat_lt m n
        shift m n = grind (arith, nat_tests)

position-has : (c : ℕ) (xs : List OpenSocket) → is_some (position (is_of c) xs) ≡ has_socket c xs
position-has c xs = chosen (nat_lt (position_or_len (is_of c) xs) (length xs)) ∙ has-below c xs
  where
    chosen : (b : Bool) → is_some (cond b (Some (position_or_len (is_of c) xs)) None) ≡ b
    chosen true = refl
    chosen false = refl

pub has_one : (c i : ℕ) (xs : List OpenSocket) → Some i ≡ position (is_of c) xs → has_socket c xs ≡ true
has_one c i xs place = sym (position-has c xs) ∙ ap is_some (sym place)

pub has_none : (c : ℕ) (xs : List OpenSocket) → None ≡ position (is_of c) xs → has_socket c xs ≡ false
has_none c xs place = sym (position-has c xs) ∙ ap is_some (sym place)

-- ---- one less

without-gone : (c : ℕ) (xs : List OpenSocket) → AreDistinct xs → has_socket c (without_socket c xs) ≡ false
without-gone c [] h = refl
without-gone c (x ∷ xs) h = step (without-gone c xs h.1) (x.number == c) refl
  where
    step : has_socket c (without_socket c xs) ≡ false → (b : Bool) → (x.number == c) ≡ b → has_socket c (cond b xs (x ∷ without_socket c xs)) ≡ false
    step more true e = subst (λ n. has_socket n xs ≡ false) (equal x.number c e) h.0
    step more false e = or_both (x.number == c) (has_socket c (without_socket c xs)) e more

without-others : (c : ℕ) (xs : List OpenSocket) → OthersStay c xs (without_socket c xs)
without-others c [] = λ k ne. (refl, refl)
without-others c (x ∷ xs) = λ k ne. step k ne (without-others c xs k ne) (x.number == c) refl
  where
    step : (k : ℕ) → k ≢ c → (has_socket k (without_socket c xs) ≡ has_socket k xs) × (readiness_of (without_socket c xs) k ≡ readiness_of xs k) → (b : Bool) → (x.number == c) ≡ b
        → (has_socket k (cond b xs (x ∷ without_socket c xs)) ≡ (x.number == k) || has_socket k xs) × (readiness_of (cond b xs (x ∷ without_socket c xs)) k ≡ cond (x.number == k) x.ready (readiness_of xs k))
    step k ne more true e =
        let no : false ≡ (x.number == k) = sym (not_other x.number c k e ne) in
        (ap (λ b. b || has_socket k xs) no, ap (λ b. cond b x.ready (readiness_of xs k)) no)
    step k ne more false e = (ap (λ b. (x.number == k) || b) more.0, ap (λ (r : Readiness). cond (x.number == k) x.ready r) more.1)

pub remove-gone : (c i : ℕ) (xs : List OpenSocket) → Some i ≡ position (is_of c) xs → AreDistinct xs → has_socket c (remove xs i) ≡ false
remove-gone c i xs place distinct = subst (λ (ys : List OpenSocket). has_socket c ys ≡ false) (place-some c xs i place).removed (without-gone c xs distinct)

pub remove-others : (c i : ℕ) (xs : List OpenSocket) → Some i ≡ position (is_of c) xs → OthersStay c xs (remove xs i)
remove-others c i xs place = subst (λ (ys : List OpenSocket). OthersStay c xs ys) (place-some c xs i place).removed (without-others c xs)

-- ---- one more

push-own : (x : OpenSocket) (xs : List OpenSocket) → has_socket x.number xs ≡ false → (has_socket x.number (xs ++ x ∷ []) ≡ true) × (readiness_of (xs ++ x ∷ []) x.number ≡ x.ready)
push-own x [] none = (ap (λ b. b || false) (own x.number), ap (λ b. cond b x.ready (readiness_of [] x.number)) (own x.number))
push-own x (y ∷ ys) none =
    let both = or_false (y.number == x.number) (has_socket x.number ys) none in
    let more = push-own x ys both.1 in (
      ap (λ b. b || has_socket x.number (ys ++ x ∷ [])) both.0 ∙ more.0,
      ap (λ b. cond b y.ready (readiness_of (ys ++ x ∷ []) x.number)) both.0 ∙ more.1,
    )

push-others : (x : OpenSocket) (xs : List OpenSocket) → OthersStay x.number xs (xs ++ x ∷ [])
push-others x [] = λ k ne.
    let no = not_other x.number x.number k (own x.number) ne in
    (ap (λ b. b || false) no, ap (λ b. cond b x.ready (readiness_of [] k)) no)
push-others x (y ∷ ys) = λ k ne.
    let more = push-others x ys k ne in
    (ap (λ b. (y.number == k) || b) more.0, ap (λ (r : Readiness). cond (y.number == k) y.ready r) more.1)

pub pushed-own : (b : Bool) (x : OpenSocket) (xs : List OpenSocket) → has_socket x.number xs ≡ false → b ≡ true
    → (has_socket x.number (cond b (xs ++ x ∷ []) xs) ≡ true) × (readiness_of (cond b (xs ++ x ∷ []) xs) x.number ≡ x.ready)
pushed-own true x xs none h = push-own x xs none
pushed-own false x xs none h = cc

pub pushed-others : (b : Bool) (x : OpenSocket) (xs : List OpenSocket) → OthersStay x.number xs (cond b (xs ++ x ∷ []) xs)
pushed-others true x xs = push-others x xs
pushed-others false x xs = λ k ne. (refl, refl)
