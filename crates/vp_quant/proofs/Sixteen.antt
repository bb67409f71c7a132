-- Lists of numbers and of bits: all set, handed on, shuffled, and the same number by number.
use Rattle.std.proofs.Common.{◌≡◌, ◌∙◌, ℕ, zero, suc, ◌+◌, ◌-◌, ◌*◌, ◌/◌, ◌%◌, ◌^◌, ◌<◌, ◌≤◌, Bool, true, false, ℤ, pos, negsuc, List, [], ◌∷◌, ◌++◌, map, length, get_or, Option, Some, None, refl, ap, sym, subst, arith, to_z, of_z, w16, unsigned_abs}
use Rattle.std.specs.List.{range_with_len}
use Rattle.std.proofs.lemmas.Bool.{false≢true}
use Rattle.std.proofs.lemmas.Int.{ints, to_z-of_z}
use Rattle.std.proofs.lemmas.List.{get_or_append_left, get_or-append_right}
use Rattle.std.proofs.lemmas.Simd.{mask_l-lt}
use Rattle.std.proofs.Math.ListN.{get_or-map}
use Rattle.std.proofs.Math.Nat.{pow-succ'}
use mathlib.Core.List.{map-append}
use mir.Val.{Val, SFits}
use denote.Laws.{Is}
use denote.Array.{Array}
use borrow.Kind.Array.{e_s_int}
use lib.Lanes.{mask_l, Each1}
use Rattle.vp_lanes.specs.Lane.{lane}
use Rattle.vp_lanes.proofs.Shape.{signed_lanes}
use Rattle.vp_lanes.proofs.Signed.{Signed, signed_out, IsShort}

-- ---- a mask of which all lanes are set
pub all_set : (ms : List Bool) → mask_l ms + 1 ≡ 2 ^ length ms → (j : ℕ) → j < length ms → get_or ms j false ≡ true
all_set [] e j h = absurd (omega arith)
all_set (true ∷ ms) e zero h = refl
all_set (true ∷ ms) e (suc j) h =
    let p : 2 ^ suc (length ms) ≡ 2 * 2 ^ length ms = pow-succ' 2 (length ms) in
    all_set ms (omega (arith, p, e)) j (omega arith)
all_set (false ∷ ms) e j h =
    let l = mask_l-lt ms in
    let p : 2 ^ suc (length ms) ≡ 2 * 2 ^ length ms = pow-succ' 2 (length ms) in
    absurd (omega (arith, p, l, e))

pub set_all : (ms : List Bool) → ((j : ℕ) → j < length ms → get_or ms j false ≡ true) → mask_l ms + 1 ≡ 2 ^ length ms
set_all [] all = refl
set_all (true ∷ ms) all =
    let p : 2 ^ suc (length ms) ≡ 2 * 2 ^ length ms = pow-succ' 2 (length ms) in
    let e = set_all ms (λ j h. all (suc j) (omega arith)) in
    omega (arith, p, e)
set_all (false ∷ ms) all = absurd (false≢true (all zero (omega arith)))

-- ---- a vector as it is handed on
module _ (v : List ℤ) (p : Signed 16 (lane v) (map (of_z w16) v)) where
  pub handed : (j : ℕ) → j < 16 → lane (map (to_z w16) (map (of_z w16) v)) j ≡ lane v j
  handed j h = signed_out p j h

cons_at : {x y : ℤ} {xs ys : List ℤ} → x ≡ y → xs ≡ ys → x ∷ xs ≡ y ∷ ys
cons_at {y = y} {xs = xs} e f = ap (λ v. v ∷ xs) e ∙ ap (λ v. y ∷ v) f

-- the numbers as they are handed on
abbrev pub read : List ℤ → List ℤ
read v = map (to_z w16) (map (of_z w16) v)

abbrev pub inside : Option (List ℤ) → List ℤ
inside None = []
inside (Some v) = v

coded : (xs : List ℤ) → Each1 (SFits w16) xs → read xs ≡ xs
coded [] p = refl
coded (x ∷ xs) p = cons_at (to_z-of_z w16 x p.0) (coded xs p.1)

-- .. all of it
pub whole : (n : ℕ) (v : List ℤ) (us : List Val) → Is (Array (e_s_int w16).ty n) v us → read v ≡ v
whole n v us p = coded v (signed_lanes w16 n v us p).1

-- .. of short numbers
pub short_fits : (z : ℤ) → unsigned_abs z ≤ 32767 → SFits w16 z
short_fits (pos n) h = record { sfits = omega arith }
short_fits (negsuc n) h = record { sfits = omega arith }

pub short_whole : (xs : List ℤ) → ((i : ℕ) → unsigned_abs (lane xs i) ≤ 32767) → read xs ≡ xs
short_whole [] h = refl
short_whole (x ∷ xs) h = cons_at (to_z-of_z w16 x (short_fits x (h 0))) (short_whole xs (λ i. h (suc i)))

pub short_of : (z : ℤ) → unsigned_abs z ≤ 32767 → IsShort z
short_of z h = (omega (arith, ints), omega (arith, ints))

-- ---- two vectors shuffled
module _ {n : ℕ} {X : ℕ → ℤ} {xs : List ℕ} (p : Signed n X xs) (ys : List ℕ) where
  pub in_first : (k : ℕ) → k < n → to_z w16 (get_or (xs ++ ys) k 0) ≡ X k
  in_first k h = ap (to_z w16) (get_or_append_left xs ys 0 k (subst (λ m. k < m) (sym p.long) h)) ∙ (p.at k h).is

  pub in_second : (k : ℕ) → get_or (xs ++ ys) (n + k) 0 ≡ get_or ys k 0
  in_second k =
      let e : n + k - n ≡ k = omega arith in
      get_or-append_right xs ys n (n + k) 0 p.long (omega arith) ∙ ap (λ j. get_or ys j 0) e

each_of_both : (xs ys : List ℤ) → Each1 (SFits w16) xs → Each1 (SFits w16) ys → Each1 (SFits w16) (xs ++ ys)
each_of_both [] ys p q = q
each_of_both (x ∷ xs) ys p q = (p.0, each_of_both xs ys p.1 q)

module _ (n : ℕ) (a b : List ℤ) {us vs : List Val} (p : Is (Array (e_s_int w16).ty n) a us) (q : Is (Array (e_s_int w16).ty n) b vs) where
  pub in_both : (i : ℕ) → to_z w16 (get_or (map (of_z w16) a ++ map (of_z w16) b) i 0) ≡ lane (a ++ b) i
  in_both i =
      ap (λ xs. to_z w16 (get_or xs i 0)) (sym (map-append (of_z w16) a b)) ∙ sym (get_or-map (to_z w16) (map (of_z w16) (a ++ b)) i 0)
      ∙ ap (λ xs. get_or xs i (pos 0)) (coded (a ++ b) (each_of_both a b (signed_lanes w16 n a us p).1 (signed_lanes w16 n b vs q).1))

-- ---- sixteen numbers, one by one
pub sixteen : {a0 a1 a2 a3 b0 b1 b2 b3 c0 c1 c2 c3 d0 d1 d2 d3 p0 p1 p2 p3 q0 q1 q2 q3 r0 r1 r2 r3 s0 s1 s2 s3 : ℤ}
    → a0 ≡ p0 → a1 ≡ p1 → a2 ≡ p2 → a3 ≡ p3 → b0 ≡ q0 → b1 ≡ q1 → b2 ≡ q2 → b3 ≡ q3
    → c0 ≡ r0 → c1 ≡ r1 → c2 ≡ r2 → c3 ≡ r3 → d0 ≡ s0 → d1 ≡ s1 → d2 ≡ s2 → d3 ≡ s3
    → a0 ∷ a1 ∷ a2 ∷ a3 ∷ b0 ∷ b1 ∷ b2 ∷ b3 ∷ c0 ∷ c1 ∷ c2 ∷ c3 ∷ d0 ∷ d1 ∷ d2 ∷ d3 ∷ []
    ≡ p0 ∷ p1 ∷ p2 ∷ p3 ∷ q0 ∷ q1 ∷ q2 ∷ q3 ∷ r0 ∷ r1 ∷ r2 ∷ r3 ∷ s0 ∷ s1 ∷ s2 ∷ s3 ∷ []
sixteen e0 e1 e2 e3 f0 f1 f2 f3 g0 g1 g2 g3 h0 h1 h2 h3 =
    cons_at e0 (cons_at e1 (cons_at e2 (cons_at e3 (cons_at f0 (cons_at f1 (cons_at f2 (cons_at f3
    (cons_at g0 (cons_at g1 (cons_at g2 (cons_at g3 (cons_at h0 (cons_at h1 (cons_at h2 (cons_at h3 refl)))))))))))))))

below_four : (P : ℕ → Type 0) → P 0 → P 1 → P 2 → P 3 → (j : ℕ) → j < 4 → P j
below_four P a b c d zero h = a
below_four P a b c d (suc zero) h = b
below_four P a b c d (suc (suc zero)) h = c
below_four P a b c d (suc (suc (suc zero))) h = d
below_four P a b c d (suc (suc (suc (suc j)))) h = absurd (omega arith)

pub below_eight : (P : ℕ → Type 0) → P 0 → P 1 → P 2 → P 3 → P 4 → P 5 → P 6 → P 7 → (j : ℕ) → j < 8 → P j
below_eight P a b c d p q r s zero h = a
below_eight P a b c d p q r s (suc zero) h = b
below_eight P a b c d p q r s (suc (suc zero)) h = c
below_eight P a b c d p q r s (suc (suc (suc zero))) h = d
below_eight P a b c d p q r s (suc (suc (suc (suc j)))) h = below_four (λ i. P (suc (suc (suc (suc i))))) p q r s j (omega arith)

pub by_rows : (P : ℕ → ℕ → Type 0) → P 0 0 → P 0 1 → P 0 2 → P 0 3 → P 1 0 → P 1 1 → P 1 2 → P 1 3
    → P 2 0 → P 2 1 → P 2 2 → P 2 3 → P 3 0 → P 3 1 → P 3 2 → P 3 3 → (r c : ℕ) → r < 4 → c < 4 → P r c
by_rows P a0 a1 a2 a3 b0 b1 b2 b3 c0 c1 c2 c3 d0 d1 d2 d3 r c h g =
    below_four (λ r. P r c) (below_four (P 0) a0 a1 a2 a3 c g) (below_four (P 1) b0 b1 b2 b3 c g)
    (below_four (P 2) c0 c1 c2 c3 c g) (below_four (P 3) d0 d1 d2 d3 c g) r h

pub below_sixteen : (P : ℕ → Type 0) → P 0 → P 1 → P 2 → P 3 → P 4 → P 5 → P 6 → P 7
    → P 8 → P 9 → P 10 → P 11 → P 12 → P 13 → P 14 → P 15 → (j : ℕ) → j < 16 → P j
below_sixteen P a0 a1 a2 a3 b0 b1 b2 b3 c0 c1 c2 c3 d0 d1 d2 d3 j h =
    let e : 4 * (j / 4) + j % 4 ≡ j = omega arith in
    subst (λ i. P i) e (by_rows (λ r c. P (4 * r + c)) a0 a1 a2 a3 b0 b1 b2 b3 c0 c1 c2 c3 d0 d1 d2 d3 (j / 4) (j % 4) (omega arith) (omega arith))

-- ---- a block, lane by lane
pub map_same : (f g : ℕ → ℤ) (a n : ℕ) → ((k : ℕ) → k < n → f (a + k) ≡ g (a + k)) → map f (range_with_len a n) ≡ map g (range_with_len a n)
map_same f g a zero same = refl
map_same f g a (suc n) same =
    let z : a + 0 ≡ a = omega arith in
    let first : f a ≡ g a = subst (λ k. f k ≡ g k) z (same 0 (omega arith)) in
    let rest = map_same f g (a + 1) n (λ k h. let e : a + (k + 1) ≡ a + 1 + k = omega arith in subst (λ i. f i ≡ g i) e (same (k + 1) (omega arith))) in
    ap (λ x. x ∷ map f (range_with_len (a + 1) n)) first ∙ ap (λ xs. g a ∷ xs) rest
