-- A line gets one reply at most.
use Rattle.std.proofs.Common.{◌-◌, ◌≡◌, ◌==◌, ◌≤◌, ◌++◌, ◌∷◌, ◌∙◌, [], ℕ, List, Bool, true, false, ◌&&◌, ◌⊎◌, cond, nat_eq, nat_lt, refl, ap, sym, subst, length, drop, inl, inr, arith}
use lib.Pointwise.{pointwise}
use Rattle.std.proofs.lemmas.Bool.Decides.{nat_tests}
use Rattle.std.proofs.lemmas.List.{drop-append-le, length_push}
use Rattle.vp_heads.specs.Replies.{too_long}
use Rattle.vp_hub.specs.declared.connection.ConnectionState.{ConnectionState}
use Rattle.vp_hub.specs.Pages.{Streams, IsReply}
use Rattle.vp_hub.specs.Hub.{Chosen, Settles, TakesByte, Serves, ends_head}
use Rattle.vp_serve.specs.Replies.{AddsOneReply, LinesGetOneReply}

-- ---- a head ends with a line feed

and_right : (a b : Bool) → a && b ≡ true → b ≡ true
and_right true b h = h
and_right false b h = cc

and_left : (a b : Bool) → a && b ≡ true → a ≡ true
and_left true b h = refl
and_left false b h = cc

true_false : true ≡ false → ⊥
true_false e = cc

last_same : (xs ys : List ℕ) (a b : ℕ) → pointwise nat_eq (xs ++ a ∷ []) (ys ++ b ∷ []) ≡ true → (b == a) ≡ true
last_same [] [] a b h = grind (arith, nat_tests, and_left (nat_eq a b) true h)
last_same [] (y ∷ []) a b h = absurd (true_false (sym (and_right (nat_eq a y) false h)))
last_same [] (y ∷ z ∷ ys) a b h = absurd (true_false (sym (and_right (nat_eq a y) false h)))
last_same (x ∷ []) [] a b h = absurd (true_false (sym (and_right (nat_eq x b) false h)))
last_same (x ∷ z ∷ xs) [] a b h = absurd (true_false (sym (and_right (nat_eq x b) false h)))
last_same (x ∷ xs) (y ∷ ys) a b h = last_same xs ys a b (and_right (nat_eq x y) (pointwise nat_eq (xs ++ a ∷ []) (ys ++ b ∷ [])) h)

ends_by_line_feed : (p : List ℕ) (b : ℕ) → ends_head (p ++ b ∷ []) ≡ true → (b == 10) ≡ true
unfolding ends_head
ends_by_line_feed p b h =
    let m = length (p ++ b ∷ []) - 4 in
    let le : m ≤ length p = omega (arith, length_push p b) in
    last_same (13 ∷ 10 ∷ 13 ∷ []) (drop m p) 10 b (ap (λ (l : List ℕ). pointwise nat_eq (13 ∷ 10 ∷ 13 ∷ 10 ∷ []) l) (sym (drop-append-le m p (b ∷ []) le)) ∙ h)

no_head : (p : List ℕ) (b : ℕ) → (b == 10) ≡ false → ends_head (p ++ b ∷ []) ≡ false
no_head p b h = at (ends_head (p ++ b ∷ [])) refl
  where
    at : (t : Bool) → ends_head (p ++ b ∷ []) ≡ t → t ≡ false
    at true e = absurd (true_false (sym (ends_by_line_feed p b e) ∙ h))
    at false e = refl

-- ---- byte by byte

closed_stays : (ss : Streams) (bs : List ℕ) (v w : ConnectionState × List ℕ) → v.0.closed ≡ true → Serves ss bs v w → w ≡ v
closed_stays ss [] v w h s = s
closed_stays ss (b ∷ bs) v w h (mid, takes, more) =
    let same : mid ≡ v = subst (λ t. Chosen t (mid ≡ v) (Settles ss (v.0.pending ++ b ∷ []) v.1 mid)) h takes in
    closed_stays ss bs mid w (ap (λ (x : ConnectionState × List ℕ). x.0.closed) same ∙ h) more ∙ same

-- the last byte
last_byte : (ss : Streams) (b : ℕ) (v w : ConnectionState × List ℕ) → TakesByte ss b v w → AddsOneReply ss v.1 w.1
last_byte ss b v w h = by_closed v.0.closed h
  where
    q : List ℕ
    q = v.0.pending ++ b ∷ []

    by_room : (t : Bool) → w ≡ cond t (record { pending = q; closed = false }, v.1) (record { pending = []; closed = true }, v.1 ++ too_long) → AddsOneReply ss v.1 w.1
    by_room true e = inl (ap (λ (x : ConnectionState × List ℕ). x.1) e)
    by_room false e = inr (inl (ap (λ (x : ConnectionState × List ℕ). x.1) e))

    by_end : (t : Bool) → Chosen t ((r : List ℕ × Bool) × IsReply ss q r × (w ≡ (record { pending = []; closed = r.1 }, v.1 ++ r.0)))
        (w ≡ cond (nat_lt (length q) 8192) (record { pending = q; closed = false }, v.1) (record { pending = []; closed = true }, v.1 ++ too_long)) → AddsOneReply ss v.1 w.1
    by_end true h = inr (inr (q, h.0, h.1, ap (λ (x : ConnectionState × List ℕ). x.1) h.2))
    by_end false h = by_room (nat_lt (length q) 8192) h

    by_closed : (t : Bool) → Chosen t (w ≡ v) (Settles ss q v.1 w) → AddsOneReply ss v.1 w.1
    by_closed true h = inl (ap (λ (x : ConnectionState × List ℕ). x.1) h)
    by_closed false h = by_end (ends_head q) h

-- a byte that is no line feed: nothing is written, or the connection is closed
quiet_byte : (ss : Streams) (b : ℕ) (v w : ConnectionState × List ℕ) → (b == 10) ≡ false → TakesByte ss b v w → (w.1 ≡ v.1) ⊎ ((w.0.closed ≡ true) × (w.1 ≡ v.1 ++ too_long))
quiet_byte ss b v w other h = by_closed v.0.closed h
  where
    q : List ℕ
    q = v.0.pending ++ b ∷ []

    by_room : (t : Bool) → w ≡ cond t (record { pending = q; closed = false }, v.1) (record { pending = []; closed = true }, v.1 ++ too_long)
        → (w.1 ≡ v.1) ⊎ ((w.0.closed ≡ true) × (w.1 ≡ v.1 ++ too_long))
    by_room true e = inl (ap (λ (x : ConnectionState × List ℕ). x.1) e)
    by_room false e = inr (ap (λ (x : ConnectionState × List ℕ). x.0.closed) e, ap (λ (x : ConnectionState × List ℕ). x.1) e)

    by_closed : (t : Bool) → Chosen t (w ≡ v) (Settles ss q v.1 w) → (w.1 ≡ v.1) ⊎ ((w.0.closed ≡ true) × (w.1 ≡ v.1 ++ too_long))
    by_closed true h = inl (ap (λ (x : ConnectionState × List ℕ). x.1) h)
    by_closed false h = by_room (nat_lt (length q) 8192)
        (subst (λ t. Chosen t ((r : List ℕ × Bool) × IsReply ss q r × (w ≡ (record { pending = []; closed = r.1 }, v.1 ++ r.0)))
        (w ≡ cond (nat_lt (length q) 8192) (record { pending = q; closed = false }, v.1) (record { pending = []; closed = true }, v.1 ++ too_long))) (no_head v.0.pending b other) h)

pub one_reply : LinesGetOneReply
one_reply ss [] v w line s = inl (ap (λ (x : ConnectionState × List ℕ). x.1) s)
one_reply ss (b ∷ []) v w line (mid, takes, same) = subst (λ (x : ConnectionState × List ℕ). AddsOneReply ss v.1 x.1) (sym same) (last_byte ss b v mid takes)
one_reply ss (b ∷ c ∷ bs) v w (other, line) (mid, takes, more) = at (one_reply ss (c ∷ bs) mid w line more) (quiet_byte ss b v mid other takes)
  where
    at : AddsOneReply ss mid.1 w.1 → ((mid.1 ≡ v.1) ⊎ ((mid.0.closed ≡ true) × (mid.1 ≡ v.1 ++ too_long))) → AddsOneReply ss v.1 w.1
    at one (inl e) = subst (λ (x : List ℕ). AddsOneReply ss x w.1) e one
    at one (inr h) = inr (inl (ap (λ (x : ConnectionState × List ℕ). x.1) (closed_stays ss (c ∷ bs) mid w h.0 more) ∙ h.1))
