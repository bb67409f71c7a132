-- Sides of smaller planes, and the mean of a square.
use Rattle.std.proofs.Common.{◌≡◌, ℕ, ◌+◌, ◌*◌, ◌/◌, ◌<◌, sum, length, sym, subst, arith, inl, inr}
use Rattle.vp_base.specs.Raster.{Raster}
use Rattle.vp_base.proofs.BlockLemmas.{length-numbers}
use Rattle.vp_scale.specs.Scale.{IsFactor, scaled_side}
use Rattle.vp_scale.specs.Planes.{half}
use Rattle.vp_scale.specs.Means.{nearest, square, mean_at}

-- for each of the four factors
pub by_factor : (P : ℕ → Type 0) (k : ℕ) → IsFactor k → P 1 → P 2 → P 4 → P 8 → P k
by_factor P k is one two four eight =
    elim is [
      | inl e ↦ subst P (sym e) one
      | inr (inl e) ↦ subst P (sym e) two
      | inr (inr (inl e)) ↦ subst P (sym e) four
      | inr (inr (inr e)) ↦ subst P (sym e) eight
    ]

-- a square of the smaller plane begins inside the plane
pub begins_inside : (k x n : ℕ) → IsFactor k → x < scaled_side k n → x * k < n
begins_inside k x n is = by_factor (λ k. x < scaled_side k n → x * k < n) k is (λ h. omega arith) (λ h. omega arith) (λ h. omega arith) (λ h. omega arith)

-- half of the smaller side is half of the side, made smaller
pub halves : (k n : ℕ) → IsFactor k → scaled_side k (half n) ≡ half (scaled_side k n)
halves k n is = by_factor (λ k. scaled_side k (half n) ≡ half (scaled_side k n)) k is (omega arith) (omega arith) (omega arith) (omega arith)

pub mean_is : (k total x y : ℕ) (p : Raster) → total ≡ sum (square k p (x * k) (y * k)) → (total + k * k / 2) / (k * k) ≡ mean_at k p x y
unfolding mean_at
mean_is k total x y p is =
    let n : k * k ≡ length (square k p (x * k) (y * k)) = sym (length-numbers k k (λ c r. nearest p (x * k + c) (y * k + r))) in
    λ i. (is i + n i / 2) / n i
