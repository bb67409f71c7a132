-- A size is known by its sides.
use Rattle.std.proofs.Common.{◌≡◌, ◌∙◌, ℕ, zero, suc, ◌<◌, ◌≤◌, ◌*◌, ◌⊎◌, Some, arith, refl, subst, inl, inr}
use Rattle.std.specs.Prelude.{Ok, Err, bit_and, ◌/◌, ◌%◌, ◌^◌}
use Rattle.std.proofs.lemmas.Nat.{and_mask}
use Rattle.std.specs.Coded.{×_prop, le_prop}
use Rattle.std.proofs.lemmas.Bool.{lt-ltb, le-ltb}
use Rattle.vp_base.specs.declared.limits.Dim.{Dim}
use Rattle.vp_base.specs.declared.limits.Limits.{Limits}
use Rattle.vp_base.specs.Limits.{IsNoSide}
use Rattle.vp_head.specs.Sides.{is_side}
use Rattle.vp_head.specs.Tag.{dim_of, dim_within_limits}
use Rattle.vp_head.specs.declared.fault.PacketFault.TheVariants.{Size, TooLarge}

own : (w h : ℕ) (a : (0 < w) × (w ≤ 16383)) (b : (0 < h) × (h ≤ 16383)) (p : w ≤ 16383) (q : h ≤ 16383)
    → dim_of w h p q ≡ Some (record { w = w; h = h; w_in_range = a; h_in_range = b })
own zero h a b p q = absurd (omega (arith, a.0))
own (suc w) zero a b p q = absurd (omega (arith, b.0))
own (suc w) (suc h) a b p q = λ i.
    Some (record { w = suc w; h = suc h; w_in_range = ×_prop le_prop le_prop (is_side w p) a i; h_in_range = ×_prop le_prop le_prop (is_side h q) b i })

pub dim_of-sides : (w h : ℕ) (p : w ≤ 16383) (q : h ≤ 16383) (d : Dim) → d.w ≡ w → d.h ≡ h → dim_of w h p q ≡ Some d
dim_of-sides w h p q d e f =
    let P : ℕ → Type 0 = λ x. (p : x ≤ 16383) (q : h ≤ 16383) → dim_of x h p q ≡ Some d in
    let Q : ℕ → Type 0 = λ y. (p : d.w ≤ 16383) (q : y ≤ 16383) → dim_of d.w y p q ≡ Some d in
    subst P e (subst Q f (own d.w d.h d.w_in_range d.h_in_range)) p q

pub within-allowed : (limits : Limits) (w h : ℕ) (p : w ≤ 16383) (q : h ≤ 16383) (d : Dim) → d.w ≡ w → d.h ≡ h → w * h ≤ limits.pixels → Ok d ≡ dim_within_limits limits (dim_of w h p q)
within-allowed limits w h p q d e f k =
    let fits : d.w * d.h ≤ limits.pixels = rw (e, f) k in
    rw (dim_of-sides w h p q d e f, le-ltb limits.pixels (d.w * d.h) fits) refl

is_side_not : {n : ℕ} → IsNoSide n → 0 < n → n ≤ 16383 → ⊥
is_side_not (inl z) a b = omega arith
is_side_not (inr z) a b = omega arith

pub within-none : (limits : Limits) (u v w h : ℕ) (p : w ≤ 16383) (q : h ≤ 16383) → u ≡ w → v ≡ h → IsNoSide u ⊎ IsNoSide v
    → Err Size ≡ dim_within_limits limits (dim_of w h p q)
within-none limits u v zero h p q e f o = refl
within-none limits u v (suc w) zero p q e f o = refl
within-none limits u v (suc w) (suc h) p q e f o = absurd (elim o [ inl t ↦ is_side_not t (omega arith) (omega arith) | inr t ↦ is_side_not t (omega arith) (omega arith) ])

pub within-too_large : (limits : Limits) (u v w h : ℕ) (p : w ≤ 16383) (q : h ≤ 16383) → u ≡ w → v ≡ h → 0 < u → 0 < v → limits.pixels < u * v
    → Err TooLarge ≡ dim_within_limits limits (dim_of w h p q)
within-too_large limits u v zero h p q e f a b k = absurd (omega arith)
within-too_large limits u v (suc w) zero p q e f a b k = absurd (omega arith)
within-too_large limits u v (suc w) (suc h) p q e f a b k =
    let over : limits.pixels < suc w * suc h = rw (← e, ← f) k in
    rw (lt-ltb limits.pixels (suc w * suc h) over) refl

pub low_bits : (n : ℕ) → bit_and n 16383 ≡ n / 2 ^ 0 % 2 ^ 14
low_bits n = and_mask n 14 ∙ omega arith
