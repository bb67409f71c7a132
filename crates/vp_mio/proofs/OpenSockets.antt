-- The sockets of the open connections, by their numbers.
use Rattle.std.proofs.Common.{suc, ◌+◌, not, ◌∙◌, ◌||◌, ◌++◌, sym, subst, ◌≡◌, ◌==◌, ℕ, List, [], ◌∷◌, Option, Some, None, length, get_or, set, cond, refl, ap, arith, Bool, true, false, nat_lt}
use Rattle.std.specs.List.{position, position_or_len, remove}
use Rattle.std.proofs.lemmas.Bool.Decides.{nat_tests}
use Rattle.vp_serve.specs.Readiness.{Readiness, IsNoReadier, AreNoReadier}
use Rattle.vp_mio.specs.Sockets.{OpenSocket, readiness_of, has_socket, AreDistinct}

abbrev pub is_of : ℕ → OpenSocket → Bool
is_of c x = x.number == c

-- the socket of a number
abbrev pub socket_of : ℕ → List OpenSocket → Option OpenSocket
socket_of c [] = None
socket_of c (x ∷ xs) = cond (x.number == c) (Some x) (socket_of c xs)

-- another one in its place
abbrev pub with_socket : ℕ → OpenSocket → List OpenSocket → List OpenSocket
with_socket c t [] = []
with_socket c t (x ∷ xs) = cond (x.number == c) (t ∷ xs) (x ∷ with_socket c t xs)

-- all others
abbrev pub without_socket : ℕ → List OpenSocket → List OpenSocket
without_socket c [] = []
without_socket c (x ∷ xs) = cond (x.number == c) xs (x ∷ without_socket c xs)

pub true_false : true ≡ false → ⊥
true_false e = cc

false_true : false ≡ true → ⊥
false_true e = cc

none_some : (t : OpenSocket) → None ≡ Some t → ⊥
none_some t h = cc

pub same_some : (t u : OpenSocket) → Some t ≡ Some u → t ≡ u
same_some t u e = cc

pub or_false : (a b : Bool) → a || b ≡ false → (a ≡ false) × (b ≡ false)
or_false true b h = absurd (true_false h)
or_false false b h = (refl, h)

pub or_both : (a b : Bool) → a ≡ false → b ≡ false → a || b ≡ false
or_both a b h k = ap (λ t. t || b) h ∙ k

pub equal : (a b : ℕ) → (a == b) ≡ true → a ≡ b
equal a b h = grind (arith, nat_tests, h)

flip : (a b : ℕ) → (a == b) ≡ false → (b == a) ≡ false
flip a b h = grind (arith, nat_tests, h)

-- ---- by an index

pub with_socket-place : (c : ℕ) (t : OpenSocket) (xs : List OpenSocket) → with_socket c t xs ≡ set xs (position_or_len (is_of c) xs) t
with_socket-place c t [] = refl
with_socket-place c t (x ∷ xs) = step (with_socket-place c t xs) (is_of c x)
  where
    step : with_socket c t xs ≡ set xs (position_or_len (is_of c) xs) t → (b : Bool) → cond b (t ∷ xs) (x ∷ with_socket c t xs) ≡ set (x ∷ xs) (cond (not b) (1 + position_or_len (is_of c) xs) 0) t
    step e true = refl
    step e false =
        let h : 1 + position_or_len (is_of c) xs ≡ suc (position_or_len (is_of c) xs) = omega arith in
        rw h (ap (λ ys. x ∷ ys) e)

pub without_socket-place : (c : ℕ) (xs : List OpenSocket) → without_socket c xs ≡ remove xs (position_or_len (is_of c) xs)
without_socket-place c [] = refl
without_socket-place c (x ∷ xs) = step (without_socket-place c xs) (is_of c x)
  where
    step : without_socket c xs ≡ remove xs (position_or_len (is_of c) xs) → (b : Bool) → cond b xs (x ∷ without_socket c xs) ≡ remove (x ∷ xs) (cond (not b) (1 + position_or_len (is_of c) xs) 0)
    step e true = refl
    step e false =
        let h : 1 + position_or_len (is_of c) xs ≡ suc (position_or_len (is_of c) xs) = omega arith in
        rw h (ap (λ ys. x ∷ ys) e)

socket_of-place : (c : ℕ) (xs : List OpenSocket) (d : OpenSocket) → nat_lt (position_or_len (is_of c) xs) (length xs) ≡ true → socket_of c xs ≡ Some (get_or xs (position_or_len (is_of c) xs) d)
socket_of-place c [] d h = absurd (none_below h)
  where
    none_below : nat_lt 0 0 ≡ true → ⊥
    none_below e = grind (arith, nat_tests, e)
socket_of-place c (x ∷ xs) d h = step (socket_of-place c xs d) (is_of c x) h
  where
    step : (nat_lt (position_or_len (is_of c) xs) (length xs) ≡ true → socket_of c xs ≡ Some (get_or xs (position_or_len (is_of c) xs) d)) → (b : Bool)
        → nat_lt (cond (not b) (1 + position_or_len (is_of c) xs) 0) (suc (length xs)) ≡ true
        → cond b (Some x) (socket_of c xs) ≡ Some (get_or (x ∷ xs) (cond (not b) (1 + position_or_len (is_of c) xs) 0) d)
    step e true k = refl
    step e false k =
        let g : 1 + position_or_len (is_of c) xs ≡ suc (position_or_len (is_of c) xs) = omega arith in
        let l : get_or (x ∷ xs) (1 + position_or_len (is_of c) xs) d ≡ get_or xs (position_or_len (is_of c) xs) d = rw g refl in
        let less : nat_lt (position_or_len (is_of c) xs) (length xs) ≡ true = grind (arith, nat_tests, k) in
        e less ∙ ap (λ (y : OpenSocket). Some y) (sym l)

chosen : (b : Bool) (i p : ℕ) → Some i ≡ cond b (Some p) None → (p ≡ i) × (b ≡ true)
chosen true i p h = (cc, refl)
chosen false i p h = cc

not_chosen : (b : Bool) (p : ℕ) → None ≡ cond b (Some p) None → b ≡ false
not_chosen true p h = cc
not_chosen false p h = refl

-- the socket of a number is at an index
pub record IsSocketPlace (c : ℕ) (xs : List OpenSocket) (i : ℕ) : Type 0 where
  pub socket : (d : OpenSocket) → socket_of c xs ≡ Some (get_or xs i d)
  pub set : (t : OpenSocket) → with_socket c t xs ≡ set xs i t
  pub removed : without_socket c xs ≡ remove xs i

pub place-some : (c : ℕ) (xs : List OpenSocket) (i : ℕ) → Some i ≡ position (is_of c) xs → IsSocketPlace c xs i
place-some c xs i h =
    let e = chosen (nat_lt (position_or_len (is_of c) xs) (length xs)) i (position_or_len (is_of c) xs) h in
    record {
      socket = λ d. subst (λ n. socket_of c xs ≡ Some (get_or xs n d)) e.0 (socket_of-place c xs d e.1);
      set = λ t. subst (λ n. with_socket c t xs ≡ set xs n t) e.0 (with_socket-place c t xs);
      removed = subst (λ n. without_socket c xs ≡ remove xs n) e.0 (without_socket-place c xs);
    }

none_of : (c : ℕ) (xs : List OpenSocket) → nat_lt (position_or_len (is_of c) xs) (length xs) ≡ false → readiness_of xs c ≡ record { read = false; write = false }
none_of c [] h = refl
none_of c (x ∷ xs) h = step (none_of c xs) (is_of c x) h
  where
    step : (nat_lt (position_or_len (is_of c) xs) (length xs) ≡ false → readiness_of xs c ≡ record { read = false; write = false }) → (b : Bool)
        → nat_lt (cond (not b) (1 + position_or_len (is_of c) xs) 0) (suc (length xs)) ≡ false → cond b x.ready (readiness_of xs c) ≡ record { read = false; write = false }
    step e true k = absurd (below k)
      where
        below : nat_lt 0 (suc (length xs)) ≡ false → ⊥
        below l = grind (arith, nat_tests, l)
    step e false k = e (grind (arith, nat_tests, k))

pub place-none : (c : ℕ) (xs : List OpenSocket) → None ≡ position (is_of c) xs → readiness_of xs c ≡ record { read = false; write = false }
place-none c xs h = none_of c xs (not_chosen (nat_lt (position_or_len (is_of c) xs) (length xs)) (position_or_len (is_of c) xs) h)

-- ---- what a socket is ready for

pub of_socket : (c : ℕ) (t : OpenSocket) (xs : List OpenSocket) → socket_of c xs ≡ Some t → ((t.number == c) ≡ true) × (readiness_of xs c ≡ t.ready)
of_socket c t [] h = absurd (none_some t h)
of_socket c t (x ∷ xs) h = step (of_socket c t xs) (x.number == c) refl h
  where
    step : (socket_of c xs ≡ Some t → ((t.number == c) ≡ true) × (readiness_of xs c ≡ t.ready)) → (b : Bool) → (x.number == c) ≡ b → cond b (Some x) (socket_of c xs) ≡ Some t
        → ((t.number == c) ≡ true) × (cond b x.ready (readiness_of xs c) ≡ t.ready)
    step more true e k = let same = same_some x t k in (ap (λ (y : OpenSocket). y.number == c) (sym same) ∙ e, ap (λ (y : OpenSocket). y.ready) same)
    step more false e k = more k

pub with-own : (c : ℕ) (t u : OpenSocket) (xs : List OpenSocket) → socket_of c xs ≡ Some t → u.number ≡ t.number → readiness_of (with_socket c u xs) c ≡ u.ready
with-own c t u [] h same = absurd (none_some t h)
with-own c t u (x ∷ xs) h same = step (with-own c t u xs) (x.number == c) refl h
  where
    step : (socket_of c xs ≡ Some t → u.number ≡ t.number → readiness_of (with_socket c u xs) c ≡ u.ready) → (b : Bool) → (x.number == c) ≡ b → cond b (Some x) (socket_of c xs) ≡ Some t
        → readiness_of (cond b (u ∷ xs) (x ∷ with_socket c u xs)) c ≡ u.ready
    step more true e k =
        let is : (u.number == c) ≡ true = ap (λ n. n == c) (same ∙ ap (λ (y : OpenSocket). y.number) (sym (same_some x t k))) ∙ e in
        ap (λ b. cond b u.ready (readiness_of xs c)) is
    step more false e k = ap (λ b. cond b x.ready (readiness_of (with_socket c u xs) c)) e ∙ more k same

pub with-no_readier : (c : ℕ) (t u : OpenSocket) (xs : List OpenSocket) → socket_of c xs ≡ Some t → u.number ≡ t.number → IsNoReadier t.ready u.ready
    → AreNoReadier (readiness_of xs) (readiness_of (with_socket c u xs))
with-no_readier c t u [] h same less = λ k. (λ e. e, λ e. e)
with-no_readier c t u (x ∷ xs) h same less = λ k. step k (with-no_readier c t u xs) (x.number == c) h
  where
    step : (k : ℕ) → (socket_of c xs ≡ Some t → u.number ≡ t.number → IsNoReadier t.ready u.ready → AreNoReadier (readiness_of xs) (readiness_of (with_socket c u xs))) → (b : Bool)
        → cond b (Some x) (socket_of c xs) ≡ Some t → IsNoReadier (readiness_of (x ∷ xs) k) (readiness_of (cond b (u ∷ xs) (x ∷ with_socket c u xs)) k)
    step k more true is =
        let e = same_some x t is in
        let number : (u.number == k) ≡ (x.number == k) = ap (λ n. n == k) (same ∙ ap (λ (y : OpenSocket). y.number) (sym e)) in
        subst (λ b. IsNoReadier (cond (x.number == k) x.ready (readiness_of xs k)) (cond b u.ready (readiness_of xs k))) (sym number) (own (x.number == k))
      where
        own : (b : Bool) → IsNoReadier (cond b x.ready (readiness_of xs k)) (cond b u.ready (readiness_of xs k))
        own true = subst (λ (y : OpenSocket). IsNoReadier y.ready u.ready) (sym (same_some x t is)) less
        own false = (λ e. e, λ e. e)
    step k more false is = other (x.number == k)
      where
        other : (b : Bool) → IsNoReadier (cond b x.ready (readiness_of xs k)) (cond b x.ready (readiness_of (with_socket c u xs) k))
        other true = (λ e. e, λ e. e)
        other false = more is same less k

-- none of a number
pub unready : (k : ℕ) (xs : List OpenSocket) → has_socket k xs ≡ false → readiness_of xs k ≡ record { read = false; write = false }
unready k [] h = refl
unready k (x ∷ xs) h =
    let both = or_false (x.number == k) (has_socket k xs) h in
    ap (λ b. cond b x.ready (readiness_of xs k)) both.0 ∙ unready k xs both.1

none_readier : (r s : Readiness) → s ≡ record { read = false; write = false } → IsNoReadier r s
none_readier r s h = (
  λ e. absurd (false_true (sym (ap (λ (q : Readiness). q.read) h) ∙ e)),
  λ e. absurd (false_true (sym (ap (λ (q : Readiness). q.write) h) ∙ e)),
)

pub without-no_readier : (c : ℕ) (xs : List OpenSocket) → AreDistinct xs → AreNoReadier (readiness_of xs) (readiness_of (without_socket c xs))
without-no_readier c [] h = λ k. (λ e. e, λ e. e)
without-no_readier c (x ∷ xs) h = λ k. step k (without-no_readier c xs h.1) (x.number == c)
  where
    step : (k : ℕ) → AreNoReadier (readiness_of xs) (readiness_of (without_socket c xs)) → (b : Bool)
        → IsNoReadier (readiness_of (x ∷ xs) k) (readiness_of (cond b xs (x ∷ without_socket c xs)) k)
    step k more true = own (x.number == k) refl
      where
        own : (b : Bool) → (x.number == k) ≡ b → IsNoReadier (cond b x.ready (readiness_of xs k)) (readiness_of xs k)
        own true e = none_readier x.ready (readiness_of xs k) (unready k xs (subst (λ n. has_socket n xs ≡ false) (equal x.number k e) h.0))
        own false e = (λ l. l, λ l. l)
    step k more false = other (x.number == k)
      where
        other : (b : Bool) → IsNoReadier (cond b x.ready (readiness_of xs k)) (cond b x.ready (readiness_of (without_socket c xs) k))
        other true = (λ e. e, λ e. e)
        other false = more k

-- ---- one socket each

pub push-distinct : (x : OpenSocket) (xs : List OpenSocket) → has_socket x.number xs ≡ false → AreDistinct xs → AreDistinct (xs ++ x ∷ [])
push-distinct x [] none h = (refl, tt)
push-distinct x (y ∷ ys) none h =
    let both = or_false (y.number == x.number) (has_socket x.number ys) none in
    (has_none y.number ys h.0 (flip y.number x.number both.0), push-distinct x ys both.1 h.1)
  where
    has_none : (k : ℕ) (zs : List OpenSocket) → has_socket k zs ≡ false → (x.number == k) ≡ false → has_socket k (zs ++ x ∷ []) ≡ false
    has_none k [] e l = or_both (x.number == k) false l refl
    has_none k (z ∷ zs) e l =
        let parts = or_false (z.number == k) (has_socket k zs) e in
        or_both (z.number == k) (has_socket k (zs ++ x ∷ [])) parts.0 (has_none k zs parts.1 l)

pub pushed-distinct : (b : Bool) (x : OpenSocket) (xs : List OpenSocket) → has_socket x.number xs ≡ false → AreDistinct xs → AreDistinct (cond b (xs ++ x ∷ []) xs)
pushed-distinct true x xs none h = push-distinct x xs none h
pushed-distinct false x xs none h = h

pub with-has : (c k : ℕ) (t u : OpenSocket) (xs : List OpenSocket) → socket_of c xs ≡ Some t → u.number ≡ t.number → has_socket k (with_socket c u xs) ≡ has_socket k xs
with-has c k t u [] h same = refl
with-has c k t u (x ∷ xs) h same = step (with-has c k t u xs) (x.number == c) h
  where
    step : (socket_of c xs ≡ Some t → u.number ≡ t.number → has_socket k (with_socket c u xs) ≡ has_socket k xs) → (b : Bool) → cond b (Some x) (socket_of c xs) ≡ Some t
        → has_socket k (cond b (u ∷ xs) (x ∷ with_socket c u xs)) ≡ (x.number == k) || has_socket k xs
    step more true is = ap (λ n. (n == k) || has_socket k xs) (same ∙ ap (λ (y : OpenSocket). y.number) (sym (same_some x t is)))
    step more false is = ap (λ b. (x.number == k) || b) (more is same)

pub with-distinct : (c : ℕ) (t u : OpenSocket) (xs : List OpenSocket) → socket_of c xs ≡ Some t → u.number ≡ t.number → AreDistinct xs → AreDistinct (with_socket c u xs)
with-distinct c t u [] h same distinct = tt
with-distinct c t u (x ∷ xs) h same distinct = step (with-distinct c t u xs) (x.number == c) h
  where
    step : (socket_of c xs ≡ Some t → u.number ≡ t.number → AreDistinct xs → AreDistinct (with_socket c u xs)) → (b : Bool) → cond b (Some x) (socket_of c xs) ≡ Some t
        → AreDistinct (cond b (u ∷ xs) (x ∷ with_socket c u xs))
    step more true is = (
      subst (λ n. has_socket n xs ≡ false) (ap (λ (y : OpenSocket). y.number) (same_some x t is) ∙ sym same) distinct.0,
      distinct.1,
    )
    step more false is = (with-has c x.number t u xs is same ∙ distinct.0, more is same distinct.1)

without-has : (c k : ℕ) (xs : List OpenSocket) → has_socket k xs ≡ false → has_socket k (without_socket c xs) ≡ false
without-has c k [] h = h
without-has c k (x ∷ xs) h = step (or_false (x.number == k) (has_socket k xs) h) (without-has c k xs) (x.number == c)
  where
    step : ((x.number == k) ≡ false) × (has_socket k xs ≡ false) → (has_socket k xs ≡ false → has_socket k (without_socket c xs) ≡ false) → (b : Bool)
        → has_socket k (cond b xs (x ∷ without_socket c xs)) ≡ false
    step both more true = both.1
    step both more false = or_both (x.number == k) (has_socket k (without_socket c xs)) both.0 (more both.1)

pub without-distinct : (c : ℕ) (xs : List OpenSocket) → AreDistinct xs → AreDistinct (without_socket c xs)
without-distinct c [] h = tt
without-distinct c (x ∷ xs) h = step (without-distinct c xs h.1) (x.number == c)
  where
    step : AreDistinct (without_socket c xs) → (b : Bool) → AreDistinct (cond b xs (x ∷ without_socket c xs))
    step more true = h.1
    step more false = (without-has c x.number xs h.0, more)

-- ---- a socket that was found at an index, and what is there after a call

pub there : (c i : ℕ) (xs : List OpenSocket) (t : OpenSocket) → Some i ≡ position (is_of c) xs → t ≡ get_or xs i t → socket_of c xs ≡ Some t
there c i xs t place is = (place-some c xs i place).socket t ∙ ap (λ (y : OpenSocket). Some y) (sym is)

pub found-ready : (c i : ℕ) (xs : List OpenSocket) (t : OpenSocket) → Some i ≡ position (is_of c) xs → t ≡ get_or xs i t → readiness_of xs c ≡ t.ready
found-ready c i xs t place is = (of_socket c t xs (there c i xs t place is)).1

pub set-ready : (c i : ℕ) (xs : List OpenSocket) (t u : OpenSocket) → Some i ≡ position (is_of c) xs → t ≡ get_or xs i t → u.number ≡ t.number → readiness_of (set xs i u) c ≡ u.ready
set-ready c i xs t u place is same =
    subst (λ (ys : List OpenSocket). readiness_of ys c ≡ u.ready) ((place-some c xs i place).set u) (with-own c t u xs (there c i xs t place is) same)

pub set-no_readier : (c i : ℕ) (xs : List OpenSocket) (t u : OpenSocket) → Some i ≡ position (is_of c) xs → t ≡ get_or xs i t → u.number ≡ t.number → IsNoReadier t.ready u.ready
    → AreNoReadier (readiness_of xs) (readiness_of (set xs i u))
set-no_readier c i xs t u place is same less =
    subst (λ (ys : List OpenSocket). AreNoReadier (readiness_of xs) (readiness_of ys)) ((place-some c xs i place).set u) (with-no_readier c t u xs (there c i xs t place is) same less)

pub set-distinct : (c i : ℕ) (xs : List OpenSocket) (t u : OpenSocket) → Some i ≡ position (is_of c) xs → t ≡ get_or xs i t → u.number ≡ t.number → AreDistinct xs → AreDistinct (set xs i u)
set-distinct c i xs t u place is same distinct =
    subst AreDistinct ((place-some c xs i place).set u) (with-distinct c t u xs (there c i xs t place is) same distinct)

pub remove-no_readier : (c i : ℕ) (xs : List OpenSocket) → Some i ≡ position (is_of c) xs → AreDistinct xs → AreNoReadier (readiness_of xs) (readiness_of (remove xs i))
remove-no_readier c i xs place distinct =
    subst (λ (ys : List OpenSocket). AreNoReadier (readiness_of xs) (readiness_of ys)) (place-some c xs i place).removed (without-no_readier c xs distinct)

pub remove-distinct : (c i : ℕ) (xs : List OpenSocket) → Some i ≡ position (is_of c) xs → AreDistinct xs → AreDistinct (remove xs i)
remove-distinct c i xs place distinct = subst AreDistinct (place-some c xs i place).removed (without-distinct c xs distinct)
