-- Coarse sums, and the bounds that follow from them.
use Rattle.std.proofs.Common.{◌≡◌, ℕ, ◌+◌, ◌-◌, ◌*◌, ◌/◌, ◌<◌, ◌≤◌, false, cond, min, List, get_or, ltb, leb, sym, subst, arith, zero, suc, replicate, inl, inr, ap, refl, ◌∙◌}
use Rattle.std.proofs.lemmas.Bool.{cases_lt}
use Rattle.std.proofs.lemmas.Bool.Decides.{nat_tests}
use Rattle.std.proofs.lemmas.Simd.{get_or-chunk}
use borrow.Rule.Slice.PartMut.{mid_of}
use Rattle.std.specs.Int.{abs_diff}
use lib.Lanes.{top}
use Rattle.vp_search.specs.declared.window.TheConstants.{WINDOW_WIDTH}
use Rattle.vp_search.specs.Bounds.{capped, bound_of, distance_of}
use Rattle.vp_search.specs.Coarse.{AreCoarse, coarse_of, coarse_bound_of, within_byte}

-- ---- what one lane computes
pub coarse_lane : (a : ℕ) → a < 65536 → cond (top 15 (cond (ltb (a / 64) 255) 65535 0)) (a / 64) 255 ≡ coarse_of a
coarse_lane a h = grind arith

pub above_coarse : (x y limit : ℕ) → leb x y ≡ false → y ≡ min ((min limit 65535 + 252) / 64) 255 → x < 256 → limit + 252 < 64 * x
above_coarse x y limit e m f = grind (arith, nat_tests)

-- ---- bounds
-- two sums are at least as far apart as their coarse sums, but for what rounding takes
coarse_apart : (a b : ℕ) → 64 * abs_diff (coarse_of a) (coarse_of b) ≤ abs_diff a b + 63
coarse_apart a b = grind (arith, nat_tests)

four_above : (a b c d w x y z limit : ℕ) → 64 * a ≤ w + 63 → 64 * b ≤ x + 63 → 64 * c ≤ y + 63 → 64 * d ≤ z + 63
    → limit + 252 < 64 * within_byte (within_byte (a + b) + within_byte (c + d)) → limit < capped (capped (w + x) + capped (y + z))
four_above a b c d w x y z limit ha hb hc hd h = omega arith

-- a coarse bound above a limit excludes the vector
pub coarse_excludes : (block sums coarse_block coarse : List ℕ) (at limit : ℕ)
    → ((k : ℕ) → k < 4 → get_or coarse_block k 0 ≡ coarse_of (get_or block k 0))
    → ((k : ℕ) → k < at + 8 * WINDOW_WIDTH + 9 → get_or coarse k 0 ≡ coarse_of (get_or sums k 0))
    → limit + 252 < 64 * coarse_bound_of coarse_block coarse at → limit < bound_of block sums at
unfolding bound_of coarse_bound_of
coarse_excludes block sums coarse_block coarse at limit own all above =
    let apart : (k i : ℕ) → k < 4 → i < at + 8 * WINDOW_WIDTH + 9 → 64 * distance_of coarse_block coarse k i ≤ distance_of block sums k i + 63 =
    λ k i hk hi.
    subst (λ (m : ℕ). 64 * abs_diff m (get_or coarse i 0) ≤ distance_of block sums k i + 63) (sym (own k hk))
    (subst (λ (n : ℕ). 64 * abs_diff (coarse_of (get_or block k 0)) n ≤ distance_of block sums k i + 63) (sym (all i hi))
    (coarse_apart (get_or block k 0) (get_or sums i 0))) in
    four_above _ _ _ _ _ _ _ _ limit
    (apart 0 at (omega arith) (omega arith)) (apart 1 (at + 8) (omega arith) (omega arith))
    (apart 2 (at + 8 * WINDOW_WIDTH) (omega arith) (omega arith)) (apart 3 (at + 8 * WINDOW_WIDTH + 8) (omega arith) (omega arith)) above

pub coarse_fits : (a : ℕ) → cond (top 15 (cond (ltb a 255) 65535 0)) a 255 < 256
coarse_fits a = grind arith

-- ---- eight sums and their coarse sums more
pub coarse_more : (old sums older coarse : List ℕ) (lane : ℕ → ℕ) (at : ℕ)
    → ((j : ℕ) → j < 8 → get_or sums (at + j) 0 ≡ lane j) → ((k : ℕ) → k < at → get_or sums k 0 ≡ get_or old k 0) → ((k : ℕ) → at + 8 ≤ k → get_or sums k 0 ≡ get_or old k 0)
    → ((j : ℕ) → j < 8 → get_or coarse (at + j) 0 ≡ coarse_of (lane j)) → ((k : ℕ) → k < at → get_or coarse k 0 ≡ get_or older k 0) → ((k : ℕ) → at + 8 ≤ k → get_or coarse k 0 ≡ get_or older k 0)
    → (n : ℕ) → AreCoarse n old older → AreCoarse n sums coarse
coarse_more old sums older coarse lane at here before after own low high n all k h =
    elim (cases_lt k at) [
      | inl less ↦ low k less ∙ all k h ∙ ap coarse_of (sym (before k less))
      | inr more ↦ elim (cases_lt k (at + 8)) [
        | inl less ↦
            let j : ℕ = k - at in
            let place : k ≡ at + j = omega arith in
            ap (λ (i : ℕ). get_or coarse i 0) place ∙ own j (omega arith) ∙ ap coarse_of (sym (here j (omega arith))) ∙ ap (λ (i : ℕ). coarse_of (get_or sums i 0)) (sym place)
        | inr far ↦ high k far ∙ all k h ∙ ap coarse_of (sym (after k far))
      ]
    ]

zero_at : (m k : ℕ) → get_or (replicate {A = ℕ} m 0) k 0 ≡ 0
zero_at zero k = refl
zero_at (suc m) zero = refl
zero_at (suc m) (suc k) = zero_at m k

-- sums that are all 0
pub none_coarse : (n m l : ℕ) → AreCoarse n (replicate m 0) (replicate l 0)
none_coarse n m l k h = zero_at l k ∙ ap coarse_of (sym (zero_at m k))

-- ---- a part of the sums that are held
pub part_coarse : (sums coarse : List ℕ) (start n m : ℕ) → AreCoarse m sums coarse → start + n ≤ m → AreCoarse n (mid_of start n sums) (mid_of start n coarse)
part_coarse sums coarse start n m all room k h =
    get_or-chunk start n coarse k 0 h ∙ all (start + k) (omega arith) ∙ ap coarse_of (sym (get_or-chunk start n sums k 0 h))
