-- The key packets before the places of a list.
use Rattle.std.proofs.Common.{◌≡◌, ℕ, zero, suc, ◌+◌, ◌-◌, ◌<◌, ◌≤◌, ◌%◌, Bool, true, false, cond, List, [], ◌∷◌, ◌++◌, length, Option, Some, None, refl, sym, ap, ◌∙◌, inl, inr, arith}
use Rattle.std.specs.Prelude.{nat_le, ◌==◌, slice_get, slice_index}
use Rattle.std.proofs.lemmas.Bool.{false≢true, both_ways, and_parts, and_from, leb-true, le-leb, eqb-true, eq-eqb, cases_lt}
use Rattle.std.proofs.lemmas.Option.{slice_get_past}
use Rattle.std.proofs.lemmas.List.{get_or_append_left, get_or_push, length_push}
use Rattle.vp_head.specs.Tag.{IsKeyPacket}
use Rattle.vp_ivf.specs.declared.packet.Packet.{Packet}
use Rattle.vp_stream.specs.Seeking.{HasKey, IsKeyBefore, AreKeys, is_key, has_key, key_before}

-- the test decides
key_true : (b : List ℕ) → is_key b ≡ true → IsKeyPacket b
key_true b e =
    let p = and_parts (nat_le 3 (length b)) (slice_index b 0 % 2 == 0) e in
    (leb-true 3 (length b) p.0, eqb-true (slice_index b 0 % 2) 0 p.1)

key_false : (b : List ℕ) → is_key b ≡ false → ¬ IsKeyPacket b
key_false b e = λ h.
    both_ways (is_key b) e (and_from (nat_le 3 (length b)) (slice_index b 0 % 2 == 0) (le-leb 3 (length b) h.0) (eq-eqb (slice_index b 0 % 2) 0 h.1))

has_key_true : (o : Option Packet) → has_key o ≡ true → HasKey o
has_key_true None e = absurd (false≢true e)
has_key_true (Some p) e = key_true p.bytes e

has_key_false : (o : Option Packet) → has_key o ≡ false → ¬ HasKey o
has_key_false None e = λ h. h
has_key_false (Some p) e = key_false p.bytes e

-- one place more
before_zero : (ps : List Packet) → key_before ps zero ≡ cond (has_key (slice_get ps zero)) (Some zero) None
unfolding key_before
before_zero ps = refl

before_suc : (ps : List Packet) (n : ℕ) → key_before ps (suc n) ≡ cond (has_key (slice_get ps (suc n))) (Some (suc n)) (key_before ps n)
unfolding key_before
before_suc ps n = refl

-- it is the greatest place
first_place : (ps : List Packet) (b : Bool) → has_key (slice_get ps zero) ≡ b → IsKeyBefore ps zero (cond b (Some zero) None)
first_place ps true e = (omega arith, has_key_true (slice_get ps zero) e, λ j l u. absurd (omega arith))
first_place ps false e = λ k l. let z : k ≡ 0 = omega arith in rw z (has_key_false (slice_get ps zero) e)

next_place : (ps : List Packet) (n : ℕ) (o : Option ℕ) (b : Bool) → has_key (slice_get ps (suc n)) ≡ b → IsKeyBefore ps n o
    → IsKeyBefore ps (suc n) (cond b (Some (suc n)) o)
next_place ps n o true e h = (omega arith, has_key_true (slice_get ps (suc n)) e, λ j l u. absurd (omega arith))
next_place ps n None false e h = λ k l.
    elim (cases_lt n k) [
      | inl lt ↦ let z : k ≡ suc n = omega arith in rw z (has_key_false (slice_get ps (suc n)) e)
      | inr le ↦ h k le
    ]
next_place ps n (Some m) false e h = (
  omega (arith, h.0),
  h.1,
  λ k a l.
      elim (cases_lt n k) [
        | inl lt ↦ let z : k ≡ suc n = omega arith in rw z (has_key_false (slice_get ps (suc n)) e)
        | inr le ↦ h.2 k a le
      ],
)

pub is_key_before : (ps : List Packet) (n : ℕ) → IsKeyBefore ps n (key_before ps n)
is_key_before ps zero = rw (before_zero ps) (first_place ps (has_key (slice_get ps zero)) refl)
is_key_before ps (suc n) = rw (before_suc ps n) (next_place ps n (key_before ps n) (has_key (slice_get ps (suc n))) refl (is_key_before ps n))

-- packets that come behind change nothing
get_front : {X : Type 0} (xs ys : List X) (k : ℕ) → k < length xs → slice_get (xs ++ ys) k ≡ slice_get xs k
get_front [] ys k h = absurd (omega arith)
get_front (x ∷ xs) ys zero h = refl
get_front (x ∷ xs) ys (suc k) h = get_front xs ys k (omega arith)

before-append : (ps qs : List Packet) (n : ℕ) → n < length ps → key_before (ps ++ qs) n ≡ key_before ps n
before-append ps qs zero h =
    before_zero (ps ++ qs) ∙ (ap (λ o. cond (has_key o) (Some zero) None) (get_front ps qs zero h) ∙ sym (before_zero ps))
before-append ps qs (suc n) h =
    before_suc (ps ++ qs) n
    ∙ (ap (λ o. cond (has_key o) (Some (suc n)) (key_before (ps ++ qs) n)) (get_front ps qs (suc n) h)
    ∙ (ap (λ later. cond (has_key (slice_get ps (suc n))) (Some (suc n)) later) (before-append ps qs n (omega arith)) ∙ sym (before_suc ps n)))

-- past the end it stays
past : (ps : List Packet) (m d : ℕ) → length ps ≤ m + 1 → key_before ps (m + d) ≡ key_before ps m
past ps m zero h = let e : m + 0 ≡ m = omega arith in ap (λ n. key_before ps n) e
past ps m (suc d) h =
    let e : m + suc d ≡ suc (m + d) = omega arith in
    ap (λ n. key_before ps n) e ∙ before_suc ps (m + d)
    ∙ (ap (λ o. cond (has_key o) (Some (suc (m + d))) (key_before ps (m + d))) (slice_get_past ps (suc (m + d)) (omega arith)) ∙ past ps m d h)

pub last_before : (ps : List Packet) (n m : ℕ) → length ps ≡ m + 1 → m ≤ n → key_before ps n ≡ key_before ps m
last_before ps n m l h =
    let e : n ≡ m + (n - m) = omega arith in
    ap (λ x. key_before ps x) e ∙ past ps m (n - m) (omega arith)

pub none_before : (n : ℕ) → key_before [] n ≡ None
none_before zero = before_zero []
none_before (suc n) = before_suc [] n ∙ none_before n

-- a packet more
at_end : {X : Type 0} (xs : List X) (x : X) → slice_get (xs ++ x ∷ []) (length xs) ≡ Some x
at_end [] x = refl
at_end (y ∷ xs) x = at_end xs x

here : (ps : List Packet) (n : ℕ) → has_key (slice_get ps n) ≡ true → key_before ps n ≡ Some n
here ps zero e = before_zero ps ∙ ap (λ b. cond b (Some zero) None) e
here ps (suc n) e = before_suc ps n ∙ ap (λ b. cond b (Some (suc n)) (key_before ps n)) e

pub key_here : (ps : List Packet) (p : Packet) → is_key p.bytes ≡ true → key_before (ps ++ p ∷ []) (length ps) ≡ Some (length ps)
key_here ps p e = here (ps ++ p ∷ []) (length ps) (ap has_key (at_end ps p) ∙ e)

pub key_before_it : (ps : List Packet) (p : Packet) (m : ℕ) → is_key p.bytes ≡ false → length ps ≡ suc m
    → key_before (ps ++ p ∷ []) (length ps) ≡ key_before ps m
key_before_it ps p m e l =
    let there : has_key (slice_get (ps ++ p ∷ []) (suc m)) ≡ false = ap (λ n. has_key (slice_get (ps ++ p ∷ []) n)) (sym l) ∙ (ap has_key (at_end ps p) ∙ e) in
    ap (λ n. key_before (ps ++ p ∷ []) n) l
    ∙ (before_suc (ps ++ p ∷ []) m ∙ (ap (λ b. cond b (Some (suc m)) (key_before (ps ++ p ∷ []) m)) there ∙ before-append ps (p ∷ []) m (omega arith)))

pub no_key_yet : (ps : List Packet) (p : Packet) → is_key p.bytes ≡ false → length ps ≡ 0 → key_before (ps ++ p ∷ []) (length ps) ≡ None
no_key_yet [] p e l = before_zero (p ∷ []) ∙ ap (λ b. cond b (Some zero) None) e
no_key_yet (q ∷ ps) p e l = absurd (omega arith)

pub keys_push : (ps : List Packet) (p : Packet) (keys : List (Option ℕ)) (key : Option ℕ) → AreKeys ps keys
    → key ≡ key_before (ps ++ p ∷ []) (length ps) → AreKeys (ps ++ p ∷ []) (keys ++ key ∷ [])
keys_push ps p keys key a e = record {
  long = length_push keys key ∙ (ap (λ n. n + 1) a.long ∙ sym (length_push ps p));
  each = λ k l.
      elim (cases_lt k (length ps)) [
        | inl lt ↦ get_or_append_left keys (key ∷ []) None k (omega (arith, a.long)) ∙ (a.each k lt ∙ sym (before-append ps (p ∷ []) k lt))
        | inr ge ↦
            let z : length ps ≡ k = omega (arith, length_push ps p) in
            get_or_push keys key None k (a.long ∙ z) ∙ (e ∙ ap (λ n. key_before (ps ++ p ∷ []) n) z)
      ];
}
