-- Vectors of four lanes of i32, passed, joined and widened.
use Rattle.std.proofs.Common.{◌≡◌, ℕ, zero, suc, ◌+◌, ◌-◌, ◌*◌, ◌^◌, ◌<◌, ◌≤◌, ℤ, pos, negsuc, List, [], ◌∷◌, ◌++◌, map, get_or, to_z, of_z, w32, w64, lit<, refl, ap, sym, subst, ◌∙◌, arith, slice_index_or, unsigned_abs}
use Rattle.std.proofs.lemmas.Int.{to_z-of_z}
use Rattle.std.proofs.lemmas.List.{get_or_append_left, get_or-append_right}
use mir.Syntax.{w16, signed, cast}
use lib.Lanes.{Each1}
use mir.Val.{Val, SFits}
use denote.Laws.{Is}
use denote.Array.{Array}
use borrow.Kind.Array.{e_s_int}
use borrow.Rule.Simd.Lanes.{act1, Asks1}
use borrow.Table.Row.{s_int}
use Rattle.vp_lanes.specs.Lane.{lane}
use Rattle.vp_lanes.proofs.Shape.{lanes_of, lane_is, mapped, each_lane}
use Rattle.vp_transform.specs.Fits.{Fits, EachWithin}
use Rattle.vp_transform.specs.Narrow.{column_of, block_in, LanesWithin}
use Rattle.vp_transform.specs.Transform.{element_at, block_from, turned, rounded, idct, vertical, horizontal}
use Rattle.vp_transform.proofs.Along.{get, turned_along}
use Rattle.vp_transform.proofs.Sizes.{turned-at_most, fits-below}
use Rattle.vp_transform.proofs.Words.{four, coded, read}
use Rattle.vp_lanes.proofs.Signed32.{Signed, Stands, sfits_from, signed_param, signed_out}

abbrev pub coded32 : ℤ → ℤ
coded32 z = to_z w32 (of_z w32 z)

module _ {m : ℕ} {z : ℤ} (p : Stands m z) where
  pub twice : coded32 (coded32 (to_z w32 m)) ≡ z
  twice = ap (λ v. coded32 (coded32 v)) p.is ∙ (ap (λ v. coded32 v) (to_z-of_z w32 z (sfits_from m z p)) ∙ to_z-of_z w32 z (sfits_from m z p))

  wide_fits : SFits w64 z
  wide_fits = let f = (sfits_from m z p).sfits in record { sfits = omega (arith, f) }

  pub widened_once : to_z w64 (of_z w64 (to_z w64 (of_z w64 (to_z w32 m)))) ≡ z
  widened_once = ap (λ v. to_z w64 (of_z w64 (to_z w64 (of_z w64 v)))) p.is ∙ (ap (λ v. to_z w64 (of_z w64 v)) (to_z-of_z w64 z wide_fits) ∙ to_z-of_z w64 z wide_fits)

module _ {X Y : ℕ → ℤ} {xs ys : List ℕ} (p : Signed 4 X xs) (q : Signed 4 Y ys) where
  pub from_first : (k : ℕ) → k < 4 → coded32 (coded32 (to_z w32 (get_or (xs ++ ys) k 0))) ≡ X k
  from_first k h = let l = p.long in
      ap (λ m. coded32 (coded32 (to_z w32 m))) (get_or_append_left xs ys 0 k (omega arith)) ∙ twice (p.at k h)

  pub from_second : (i k : ℕ) → i ≡ 4 + k → k < 4 → coded32 (coded32 (to_z w32 (get_or (xs ++ ys) i 0))) ≡ Y k
  from_second i k e h =
      let f : i - 4 ≡ k = omega arith in
      ap (λ m. coded32 (coded32 (to_z w32 m))) (get_or-append_right xs ys 4 i 0 p.long (omega arith) ∙ ap (λ n. get_or ys n 0) f) ∙ twice (q.at k h)

module _ {X : ℕ → ℤ} {xs : List ℕ} (p : Signed 4 X xs) where
  pub widened_lane : (k : ℕ) → k < 4 → to_z w64 (of_z w64 (slice_index_or (map (to_z w64) (map (act1 (cast signed signed w64) (s_int w32) (s_int w64)) xs)) k (pos 0))) ≡ X k
  widened_lane k h =
      ap (λ v. to_z w64 (of_z w64 v)) (lane_is (pos 0) (mapped (to_z w64) (mapped (act1 (cast signed signed w64) (s_int w32) (s_int w64)) (lanes_of 0 4 xs p.long))) k h)
      ∙ widened_once (p.at k h)

cons_at : {x y : ℤ} {xs ys : List ℤ} → x ≡ y → xs ≡ ys → x ∷ xs ≡ y ∷ ys
cons_at {y = y} {xs = xs} e f = ap (λ v. v ∷ xs) e ∙ ap (λ v. y ∷ v) f

pub sixteen : {a0 a1 a2 a3 b0 b1 b2 b3 c0 c1 c2 c3 d0 d1 d2 d3 p0 p1 p2 p3 q0 q1 q2 q3 r0 r1 r2 r3 s0 s1 s2 s3 : ℤ}
    → a0 ≡ p0 → a1 ≡ p1 → a2 ≡ p2 → a3 ≡ p3 → b0 ≡ q0 → b1 ≡ q1 → b2 ≡ q2 → b3 ≡ q3
    → c0 ≡ r0 → c1 ≡ r1 → c2 ≡ r2 → c3 ≡ r3 → d0 ≡ s0 → d1 ≡ s1 → d2 ≡ s2 → d3 ≡ s3
    → a0 ∷ a1 ∷ a2 ∷ a3 ∷ b0 ∷ b1 ∷ b2 ∷ b3 ∷ c0 ∷ c1 ∷ c2 ∷ c3 ∷ d0 ∷ d1 ∷ d2 ∷ d3 ∷ []
    ≡ p0 ∷ p1 ∷ p2 ∷ p3 ∷ q0 ∷ q1 ∷ q2 ∷ q3 ∷ r0 ∷ r1 ∷ r2 ∷ r3 ∷ s0 ∷ s1 ∷ s2 ∷ s3 ∷ []
sixteen e0 e1 e2 e3 f0 f1 f2 f3 g0 g1 g2 g3 h0 h1 h2 h3 =
    cons_at e0 (cons_at e1 (cons_at e2 (cons_at e3 (cons_at f0 (cons_at f1 (cons_at f2 (cons_at f3
    (cons_at g0 (cons_at g1 (cons_at g2 (cons_at g3 (cons_at h0 (cons_at h1 (cons_at h2 (cons_at h3 refl)))))))))))))))

-- ---- a vector that one call gave and the next is passed: in between it is its bits
abbrev pub handed : List ℤ → List ℤ
handed r = map (to_z w32) (map (of_z w32) r)

pub record Passes (r : List ℤ) : Type 0 where
  pub at : (j : ℕ) → j < 4 → lane (handed r) j ≡ lane r j

pub passes : (r : List ℤ) (vs : List Val) → Is (Array (e_s_int w32).ty 4) r vs → Passes r
passes r vs p = record { at = λ j h. signed_out (signed_param 4 r vs p) j h }

handed_lane : (r : List ℤ) (j : ℕ) → lane (handed r) j ≡ coded32 (lane r j)
handed_lane [] j = refl
handed_lane (x ∷ xs) zero = refl
handed_lane (x ∷ xs) (suc j) = handed_lane xs j

short_fits : (z : ℤ) → unsigned_abs z < 2147483648 → SFits w32 z
short_fits (pos n) l = record { sfits = omega arith }
short_fits (negsuc n) l = record { sfits = omega arith }

-- .. the same of a vector of which that alone is known
pub small_passes : (n : ℕ) (r : List ℤ) → n < 2147483648 → LanesWithin n r → Passes r
small_passes n r l w = record { at = λ j h. let e = w j h in handed_lane r j ∙ to_z-of_z w32 (lane r j) (short_fits (lane r j) (omega arith)) }

pub within : (m n : ℕ) {r : List ℤ} → Passes r → m ≤ n → LanesWithin m r → LanesWithin n (handed r)
within m n {r} p l w j h = let e = w j h in subst (λ z. unsigned_abs z ≤ n) (sym (p.at j h)) (omega (arith, e))

module _ {a b c d v0 v1 v2 v3 : List ℤ} (pa : Passes a) (pb : Passes b) (pc : Passes c) (pd : Passes d)
    (p0 : Passes v0) (p1 : Passes v1) (p2 : Passes v2) (p3 : Passes v3)
    (e : (j : ℕ) → j < 4 → column_of v0 v1 v2 v3 j ≡ turned (lane (handed a) j) (lane (handed b) j) (lane (handed c) j) (lane (handed d) j)) where
  -- column k of the results
  pub column_is : (k : ℕ) → k < 4 → column_of v0 v1 v2 v3 k ≡ turned (lane a k) (lane b k) (lane c k) (lane d k)
  column_is k h = e k h ∙ turned_along (pa.at k h) (pb.at k h) (pc.at k h) (pd.at k h)

  pub turned_across : (t : List ℤ) (k : ℕ) → k < 4 → t ≡ column_of (handed v0) (handed v1) (handed v2) (handed v3) k → t ≡ turned (lane a k) (lane b k) (lane c k) (lane d k)
  turned_across t k h f = f ∙ four (p0.at k h) (p1.at k h) (p2.at k h) (p3.at k h) ∙ column_is k h

module _ (n : ℕ) (a b c d v : List ℤ) (wa : LanesWithin n a) (wb : LanesWithin n b) (wc : LanesWithin n c) (wd : LanesWithin n d) where
  turned_lane : (j k i : ℕ) → j < 4 → unsigned_abs (get (turned (lane a j) (lane b j) (lane c j) (lane d j)) i) ≤ 5 * n
  turned_lane j k i h =
      (turned-at_most n {i0 = lane a j} {i1 = lane b j} {i2 = lane c j} {i3 = lane d j} (record { size = wa j h }) (record { size = wb j h }) (record { size = wc j h }) (record { size = wd j h }) i).size

  pub turned-within : (k : ℕ) → k < 4 → v ≡ turned (lane a k) (lane b k) (lane c k) (lane d k) → LanesWithin (5 * n) v
  turned-within k h e j l = subst (λ u. unsigned_abs (lane u j) ≤ 5 * n) (sym e) (turned_lane k k j h)

  pub lanes-within : (k : ℕ) → ((j : ℕ) → j < 4 → lane v j ≡ get (turned (lane a j) (lane b j) (lane c j) (lane d j)) k) → LanesWithin (5 * n) v
  lanes-within k e j h = subst (λ z. unsigned_abs z ≤ 5 * n) (sym (e j h)) (turned_lane j k k h)

-- four numbers, rounded
pub rounded_across : {w0 w1 w2 w3 e0 e1 e2 e3 : List ℤ} → Passes w0 → Passes w1 → Passes w2 → Passes w3 → Passes e0 → Passes e1 → Passes e2 → Passes e3 → (o r : List ℤ) (k : ℕ) → k < 4
    → lane e0 k ≡ rounded (lane (handed w0) k) → lane e1 k ≡ rounded (lane (handed w1) k) → lane e2 k ≡ rounded (lane (handed w2) k) → lane e3 k ≡ rounded (lane (handed w3) k)
    → o ≡ column_of (handed e0) (handed e1) (handed e2) (handed e3) k → column_of w0 w1 w2 w3 k ≡ r → o ≡ map (λ z. rounded z) r
rounded_across q0 q1 q2 q3 p0 p1 p2 p3 o r k h f0 f1 f2 f3 f g =
    f ∙ four (p0.at k h ∙ f0 ∙ ap (λ z. rounded z) (q0.at k h)) (p1.at k h ∙ f1 ∙ ap (λ z. rounded z) (q1.at k h))
    (p2.at k h ∙ f2 ∙ ap (λ z. rounded z) (q2.at k h)) (p3.at k h ∙ f3 ∙ ap (λ z. rounded z) (q3.at k h)) ∙ ap (λ v. map (λ z. rounded z) v) g

-- ---- the numbers of a row
module _ (xs : List ℤ) (small : EachWithin (2 ^ 26) xs) (k : ℕ) where
  short_at : SFits w32 (get xs k)
  short_at = let l = small k in short_fits (get xs k) (omega arith)

  fits_at : Fits (get xs k)
  fits_at = let l = small k in fits-below (get xs k) (omega arith)

  pub small_fits : SFits w32 (coded (get xs k))
  small_fits = subst (λ z. SFits w32 z) (sym (read (get xs k) fits_at)) short_at

  pub small_read : coded32 (coded (get xs k)) ≡ get xs k
  small_read = ap (λ z. coded32 z) (read (get xs k) fits_at) ∙ to_z-of_z w32 (get xs k) short_at

pub below_four : (P : ℕ → Type 0) → P 0 → P 1 → P 2 → P 3 → (j : ℕ) → j < 4 → P j
below_four P p0 p1 p2 p3 zero h = p0
below_four P p0 p1 p2 p3 (suc zero) h = p1
below_four P p0 p1 p2 p3 (suc (suc zero)) h = p2
below_four P p0 p1 p2 p3 (suc (suc (suc zero))) h = p3
below_four P p0 p1 p2 p3 (suc (suc (suc (suc n)))) h = absurd (omega arith)

-- ---- a block and its rows
module _ (n : ℕ) (a b c d : List ℤ) (w : EachWithin n (block_in a b c d)) where
  pub within_first : LanesWithin n a
  within_first = below_four (λ j. unsigned_abs (lane a j) ≤ n) (w 0) (w 1) (w 2) (w 3)

  pub within_second : LanesWithin n b
  within_second = below_four (λ j. unsigned_abs (lane b j) ≤ n) (w 4) (w 5) (w 6) (w 7)

  pub within_third : LanesWithin n c
  within_third = below_four (λ j. unsigned_abs (lane c j) ≤ n) (w 8) (w 9) (w 10) (w 11)

  pub within_fourth : LanesWithin n d
  within_fourth = below_four (λ j. unsigned_abs (lane d j) ≤ n) (w 12) (w 13) (w 14) (w 15)

module _ {a b c d : List ℤ} (pa : Passes a) (pb : Passes b) (pc : Passes c) (pd : Passes d) where
  pub block_handed : block_in (handed a) (handed b) (handed c) (handed d) ≡ block_in a b c d
  block_handed =
      sixteen (pa.at 0 (lit< tt)) (pa.at 1 (lit< tt)) (pa.at 2 (lit< tt)) (pa.at 3 (lit< tt))
      (pb.at 0 (lit< tt)) (pb.at 1 (lit< tt)) (pb.at 2 (lit< tt)) (pb.at 3 (lit< tt))
      (pc.at 0 (lit< tt)) (pc.at 1 (lit< tt)) (pc.at 2 (lit< tt)) (pc.at 3 (lit< tt))
      (pd.at 0 (lit< tt)) (pd.at 1 (lit< tt)) (pd.at 2 (lit< tt)) (pd.at 3 (lit< tt))

module _ (x a b c d : List ℤ) (ea : (j : ℕ) → j < 4 → lane a j ≡ element_at x 0 j) (eb : (j : ℕ) → j < 4 → lane b j ≡ element_at x 1 j)
    (ec : (j : ℕ) → j < 4 → lane c j ≡ element_at x 2 j) (ed : (j : ℕ) → j < 4 → lane d j ≡ element_at x 3 j) where
  pub block_read : block_in a b c d ≡ block_from (element_at x)
  block_read =
      sixteen (ea 0 (lit< tt)) (ea 1 (lit< tt)) (ea 2 (lit< tt)) (ea 3 (lit< tt)) (eb 0 (lit< tt)) (eb 1 (lit< tt)) (eb 2 (lit< tt)) (eb 3 (lit< tt))
      (ec 0 (lit< tt)) (ec 1 (lit< tt)) (ec 2 (lit< tt)) (ec 3 (lit< tt)) (ed 0 (lit< tt)) (ed 1 (lit< tt)) (ed 2 (lit< tt)) (ed 3 (lit< tt))

pub idct_of_rows : (x : List ℤ) → idct (block_from (element_at x)) ≡ idct x
unfolding idct vertical horizontal
idct_of_rows x = refl

-- ---- i16
pub short16_fits : (z : ℤ) → unsigned_abs z < 32768 → SFits w16 z
short16_fits (pos n) l = record { sfits = omega arith }
short16_fits (negsuc n) l = record { sfits = omega arith }

module _ (xs : List ℤ) (small : EachWithin 8191 xs) (k : ℕ) where
  pub short_read : to_z w32 (of_z w32 (to_z w16 (of_z w16 (get xs k)))) ≡ get xs k
  short_read =
      let l = small k in
      ap (λ z. coded32 z) (to_z-of_z w16 (get xs k) (short16_fits (get xs k) (omega arith))) ∙ to_z-of_z w32 (get xs k) (short_fits (get xs k) (omega arith))

module _ (a : List ℤ) {xs : List ℕ} (p : Signed 4 (lane a) xs) (w : LanesWithin 32764 a) where
  pub short_cast : Each1 (Asks1 (cast signed signed w16) (s_int w32)) xs
  short_cast = each_lane (Asks1 (cast signed signed w16) (s_int w32)) (lanes_of 0 4 xs p.long)
      (λ j h. let l = w j h in subst (λ y. SFits w16 y) (sym (p.at j h).is) (short16_fits (lane a j) (omega arith)))

  pub short_lane : (k : ℕ) → k < 4 → to_z w16 (of_z w16 (slice_index_or (map (to_z w16) (map (act1 (cast signed signed w16) (s_int w32) (s_int w16)) xs)) k (pos 0))) ≡ lane a k
  short_lane k h =
      let l = w k h in
      let f = short16_fits (lane a k) (omega arith) in
      ap (λ v. to_z w16 (of_z w16 v)) (lane_is (pos 0) (mapped (to_z w16) (mapped (act1 (cast signed signed w16) (s_int w32) (s_int w16)) (lanes_of 0 4 xs p.long))) k h)
      ∙ (ap (λ v. to_z w16 (of_z w16 (to_z w16 (of_z w16 v)))) (p.at k h).is ∙ (ap (λ v. to_z w16 (of_z w16 v)) (to_z-of_z w16 (lane a k) f) ∙ to_z-of_z w16 (lane a k) f))
