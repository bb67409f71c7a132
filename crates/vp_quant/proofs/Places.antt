-- Coefficients at the places of the zigzag.
use Rattle.std.proofs.Common.{◌≡◌, ℕ, zero, suc, ◌+◌, ◌*◌, ◌<◌, ◌≤◌, ℤ, pos, ◌*ℤ◌, List, [], ◌∷◌, set, replicate, refl, arith, slice_index_or, unsigned_abs, map, max, subst, sym, Bool, true, false, if◌then◌else◌, ◌==◌}
use Rattle.std.proofs.Math.Nat.{mul-le-mul}
use Rattle.std.proofs.lemmas.Int.{unsigned_abs-mul}
use Rattle.std.specs.List.{range_with_len}
use Rattle.vp_quant.specs.Quant.{position_at, dequantised_prefix, coefficient, dequantised}
use Rattle.vp_tables.specs.Tables.{zigzag}

-- one more
pub placed_more : (levels : List ℤ) (dc ac i : ℕ) → i < 16 → set (dequantised_prefix levels dc ac i) (zigzag i) (coefficient levels dc ac i) ≡ dequantised_prefix levels dc ac (i + 1)
unfolding dequantised_prefix zigzag
placed_more levels dc ac zero l = refl
placed_more levels dc ac (suc zero) l = refl
placed_more levels dc ac (suc (suc zero)) l = refl
placed_more levels dc ac (suc (suc (suc zero))) l = refl
placed_more levels dc ac (suc (suc (suc (suc zero)))) l = refl
placed_more levels dc ac (suc (suc (suc (suc (suc zero))))) l = refl
placed_more levels dc ac (suc (suc (suc (suc (suc (suc zero)))))) l = refl
placed_more levels dc ac (suc (suc (suc (suc (suc (suc (suc zero))))))) l = refl
placed_more levels dc ac (suc (suc (suc (suc (suc (suc (suc (suc zero)))))))) l = refl
placed_more levels dc ac (suc (suc (suc (suc (suc (suc (suc (suc (suc zero))))))))) l = refl
placed_more levels dc ac (suc (suc (suc (suc (suc (suc (suc (suc (suc (suc zero)))))))))) l = refl
placed_more levels dc ac (suc (suc (suc (suc (suc (suc (suc (suc (suc (suc (suc zero))))))))))) l = refl
placed_more levels dc ac (suc (suc (suc (suc (suc (suc (suc (suc (suc (suc (suc (suc zero)))))))))))) l = refl
placed_more levels dc ac (suc (suc (suc (suc (suc (suc (suc (suc (suc (suc (suc (suc (suc zero))))))))))))) l = refl
placed_more levels dc ac (suc (suc (suc (suc (suc (suc (suc (suc (suc (suc (suc (suc (suc (suc zero)))))))))))))) l = refl
placed_more levels dc ac (suc (suc (suc (suc (suc (suc (suc (suc (suc (suc (suc (suc (suc (suc (suc zero))))))))))))))) l = refl
placed_more levels dc ac (suc (suc (suc (suc (suc (suc (suc (suc (suc (suc (suc (suc (suc (suc (suc (suc i)))))))))))))))) l = absurd (omega arith)

pub placed_none : (levels : List ℤ) (dc ac : ℕ) → dequantised_prefix levels dc ac 0 ≡ replicate 16 (pos 0)
unfolding dequantised_prefix
placed_none levels dc ac = refl

pub placed_all : (levels : List ℤ) (dc ac : ℕ) → dequantised_prefix levels dc ac 16 ≡ dequantised levels dc ac
unfolding dequantised_prefix dequantised
placed_all levels dc ac = refl

pub dequantised_at : (levels : List ℤ) (dc ac i : ℕ) → i < 16 → slice_index_or (dequantised levels dc ac) (zigzag i) (pos 0) ≡ coefficient levels dc ac i
unfolding dequantised zigzag
dequantised_at levels dc ac zero l = refl
dequantised_at levels dc ac (suc zero) l = refl
dequantised_at levels dc ac (suc (suc zero)) l = refl
dequantised_at levels dc ac (suc (suc (suc zero))) l = refl
dequantised_at levels dc ac (suc (suc (suc (suc zero)))) l = refl
dequantised_at levels dc ac (suc (suc (suc (suc (suc zero))))) l = refl
dequantised_at levels dc ac (suc (suc (suc (suc (suc (suc zero)))))) l = refl
dequantised_at levels dc ac (suc (suc (suc (suc (suc (suc (suc zero))))))) l = refl
dequantised_at levels dc ac (suc (suc (suc (suc (suc (suc (suc (suc zero)))))))) l = refl
dequantised_at levels dc ac (suc (suc (suc (suc (suc (suc (suc (suc (suc zero))))))))) l = refl
dequantised_at levels dc ac (suc (suc (suc (suc (suc (suc (suc (suc (suc (suc zero)))))))))) l = refl
dequantised_at levels dc ac (suc (suc (suc (suc (suc (suc (suc (suc (suc (suc (suc zero))))))))))) l = refl
dequantised_at levels dc ac (suc (suc (suc (suc (suc (suc (suc (suc (suc (suc (suc (suc zero)))))))))))) l = refl
dequantised_at levels dc ac (suc (suc (suc (suc (suc (suc (suc (suc (suc (suc (suc (suc (suc zero))))))))))))) l = refl
dequantised_at levels dc ac (suc (suc (suc (suc (suc (suc (suc (suc (suc (suc (suc (suc (suc (suc zero)))))))))))))) l = refl
dequantised_at levels dc ac (suc (suc (suc (suc (suc (suc (suc (suc (suc (suc (suc (suc (suc (suc (suc zero))))))))))))))) l = refl
dequantised_at levels dc ac (suc (suc (suc (suc (suc (suc (suc (suc (suc (suc (suc (suc (suc (suc (suc (suc i)))))))))))))))) l = absurd (omega arith)

-- ---- how large the numbers are
pub zeros_within : (b n i : ℕ) → unsigned_abs (slice_index_or (replicate n (pos 0)) i (pos 0)) ≤ b
zeros_within b zero i = omega arith
zeros_within b (suc n) zero = omega arith
zeros_within b (suc n) (suc i) = zeros_within b n i

pub set_within : (b : ℕ) (xs : List ℤ) (k : ℕ) (v : ℤ) → ((i : ℕ) → unsigned_abs (slice_index_or xs i (pos 0)) ≤ b) → unsigned_abs v ≤ b → (i : ℕ) → unsigned_abs (slice_index_or (set xs k v) i (pos 0)) ≤ b
set_within b [] k v h g i = h i
set_within b (x ∷ xs) zero v h g zero = g
set_within b (x ∷ xs) zero v h g (suc i) = h (suc i)
set_within b (x ∷ xs) (suc k) v h g zero = h zero
set_within b (x ∷ xs) (suc k) v h g (suc i) = set_within b xs k v (λ j. h (suc j)) g i

pub map_within : (b : ℕ) (f : ℕ → ℤ) (xs : List ℕ) → ((x : ℕ) → unsigned_abs (f x) ≤ b) → (i : ℕ) → unsigned_abs (slice_index_or (map f xs) i (pos 0)) ≤ b
map_within b f [] h i = omega arith
map_within b f (x ∷ xs) h zero = h x
map_within b f (x ∷ xs) h (suc i) = map_within b f xs h i

product_within : (z : ℤ) (q m n : ℕ) → unsigned_abs z ≤ m → q ≤ n → unsigned_abs (z *ℤ pos q) ≤ m * n
product_within z q m n h g = subst (λ v. v ≤ m * n) (sym (unsigned_abs-mul z (pos q))) (mul-le-mul h g)

either_within : (b : Bool) (x y : ℕ) → (if b then x else y) ≤ max x y
either_within true x y = omega arith
either_within false x y = omega arith

module _ (levels : List ℤ) (dc ac m : ℕ) (h : (i : ℕ) → unsigned_abs (slice_index_or levels i (pos 0)) ≤ m) where
  coefficient_within : (i : ℕ) → unsigned_abs (coefficient levels dc ac i) ≤ m * max dc ac
  coefficient_within i =
      product_within (slice_index_or levels i (pos 0)) (if i == 0 then dc else ac) m (max dc ac) (h i) (either_within (i == 0) dc ac)

  pub dequantised_within : (i : ℕ) → unsigned_abs (slice_index_or (dequantised levels dc ac) i (pos 0)) ≤ m * max dc ac
  unfolding dequantised
  dequantised_within =
      map_within (m * max dc ac) (λ place. coefficient levels dc ac (position_at place)) (range_with_len 0 16) (λ place. coefficient_within (position_at place))
