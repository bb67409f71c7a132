-- Signed numbers of few bits, as they pass through calls.
use Rattle.std.proofs.Common.{◌≡◌, refl, Bool, true, not, zero, suc, ℕ, ℤ, pos, negsuc, neg_ℤ, ◌<◌, ◌≤◌, ◌^◌, cond, ltb, false, arith}
use Rattle.std.proofs.lemmas.Bool.{le-ltb}
use Rattle.std.specs.Prelude.{unsigned_abs}
use Rattle.std.proofs.lemmas.Int.{to_z-of_z, fits_signed_from_abs}
use Rattle.std.proofs.Math.Pow.{pow_mono}
use Rattle.std.proofs.lemmas.Nat.{pow_pos}
use lib.Signed.{lt_z}
use mir.Syntax.{w8}
use mir.Val.{to_z, of_z, SFits}
use Rattle.vp_head.specs.Spelled.{IsSigned}
use Rattle.vp_head.specs.declared.fields.SegmentValues.{SegmentValues}
use Rattle.std.specs.Cmp.Rules.{signed_items}
use Rattle.std.proofs.Common.{int_eq, ◌&&◌}
use Rattle.std.proofs.Math.Bool.{beq}
use Rattle.vp_tree.proofs.Walks.{and_left, and_right}
use lib.Pointwise.{pointwise}

pub with_sign : (z : ℤ) → cond (lt_z z (pos 0)) (neg_ℤ (pos (unsigned_abs z))) (pos (unsigned_abs z)) ≡ z
with_sign (pos n) = let e : ltb n 0 ≡ false = le-ltb n 0 (omega arith) in rw e refl
with_sign (negsuc n) = refl

-- an i8 as the code has it
abbrev pub coded : ℤ → ℤ
coded z = to_z w8 (of_z w8 z)

pub read : (z : ℤ) → SFits w8 z → coded z ≡ z
read z h = to_z-of_z w8 z h

pub unwrap : (n : ℕ) (z : ℤ) → n ≤ 7 → unsigned_abs z < 2 ^ n → coded z ≡ z
unwrap n z h lt = let small : unsigned_abs z < 2 ^ 7 = omega (arith, pow_mono h) in to_z-of_z w8 z (fits_signed_from_abs w8 z small)

-- what isn't 0 has few bits, and neither has 0
pub small_signed : (n : ℕ) (z : ℤ) → IsSigned n (pos 0) z → unsigned_abs z < 2 ^ n
small_signed n (pos zero) h = pow_pos n
small_signed n (pos (suc k)) h = h (λ e. absurd cc)
small_signed n (negsuc k) h = h (λ e. absurd cc)

pub not_false : (b : Bool) → not b ≡ false → b ≡ true
not_false true h = refl
not_false false h = absurd cc

pub not_true : (b : Bool) → not b ≡ true → b ≡ false
not_true true h = absurd cc
not_true false h = refl

pub yes_of : (b : Bool) → false ≡ not b → true ≡ b
yes_of true h = refl
yes_of false h = absurd cc

-- ---- equal values of segments

beq_same : (a b : Bool) → beq a b ≡ true → a ≡ b
beq_same true true h = refl
beq_same true false h = absurd cc
beq_same false true h = absurd cc
beq_same false false h = refl

beq_itself : (a : Bool) → beq a a ≡ true
beq_itself true = refl
beq_itself false = refl

both_true : (a b : Bool) → a ≡ true → b ≡ true → a && b ≡ true
both_true a b p q = rw (p, q) refl

pub same_values : (a b : SegmentValues) → beq a.absolute b.absolute && (pointwise int_eq a.quantisers b.quantisers && pointwise int_eq a.levels b.levels) ≡ true → a ≡ b
same_values a b h =
    let lists = and_right (beq a.absolute b.absolute) _ h in
    let p = beq_same a.absolute b.absolute (and_left _ (pointwise int_eq a.quantisers b.quantisers && pointwise int_eq a.levels b.levels) h) in
    let q = (signed_items a.quantisers b.quantisers).0 (and_left _ (pointwise int_eq a.levels b.levels) lists) in
    let l = (signed_items a.levels b.levels).0 (and_right (pointwise int_eq a.quantisers b.quantisers) _ lists) in
    λ i. record { absolute = p i; quantisers = q i; levels = l i }

pub equal_values : (a b : SegmentValues) → a ≡ b → beq a.absolute b.absolute && (pointwise int_eq a.quantisers b.quantisers && pointwise int_eq a.levels b.levels) ≡ true
equal_values a b e =
    rw e
    (both_true _ _ (beq_itself b.absolute)
    (both_true _ _ ((signed_items b.quantisers b.quantisers).1 refl) ((signed_items b.levels b.levels).1 refl)))
