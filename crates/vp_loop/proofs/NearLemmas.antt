-- A filter value near 0 changes no pixel.
use Rattle.std.proofs.Common.{◌≡◌, ◌∙◌, ℕ, zero, suc, ◌+◌, ◌*◌, ◌/◌, ◌%◌, ◌^◌, ◌<◌, ◌≤◌, Bool, true, false, List, [], ◌∷◌, length, get_or, replicate, refl, sym, ap, subst, arith, ℤ, pos, negsuc, ◌+ℤ◌, ◌-ℤ◌, ◌*ℤ◌, ◌≤ℤ◌}
use Rattle.std.proofs.lemmas.Simd.{mask_l-lt, mask_l-mod, get_or-zip2, length-zip2}
use Rattle.std.proofs.lemmas.Bool.{eqb-true}
use Rattle.std.proofs.Math.Nat.{pow-succ'}
use Rattle.std.proofs.lemmas.Nat.{div_below}
use Rattle.std.proofs.lemmas.Int.{ints, clamps}
use lib.Dec.{eqb}
use lib.Lanes.{mask_l, zip2}
use lib.Signed.{shr_z as floor_div}
use Rattle.vp_lanes.proofs.Bytes.{splat_lane}
use Rattle.vp_loop.specs.LineSteps.{clamp8}
use Rattle.vp_loop.proofs.LaneLines.{HasNoEighth, HasNoShare}

-- ---- a mask of which all lanes are set
all_set : (ms : List Bool) → mask_l ms + 1 ≡ 2 ^ length ms → (j : ℕ) → j < length ms → get_or ms j false ≡ true
all_set [] e j h = absurd (omega arith)
all_set (true ∷ ms) e zero h = refl
all_set (true ∷ ms) e (suc j) h =
    let p : 2 ^ suc (length ms) ≡ 2 * 2 ^ length ms = pow-succ' 2 (length ms) in
    all_set ms (omega (arith, p, e)) j (omega arith)
all_set (false ∷ ms) e j h =
    let l = mask_l-lt ms in
    let p : 2 ^ suc (length ms) ≡ 2 * 2 ^ length ms = pow-succ' 2 (length ms) in
    absurd (omega (arith, p, l, e))

pub all_zero : (v : List ℕ) → length v ≡ 16 → eqb (mask_l (zip2 eqb v (replicate 16 0)) % 2 ^ 64) 65535 ≡ true → (j : ℕ) → j < 16 → get_or v j 0 ≡ 0
all_zero v long full j h =
    let zeros : List ℕ = replicate 16 0 in
    let ms : List Bool = zip2 eqb v zeros in
    let many : length ms ≡ 16 = length-zip2 eqb v zeros long ∙ long in
    let whole : mask_l ms % 2 ^ 64 ≡ mask_l ms = mask_l-mod ms 64 (let e = many in omega arith) in
    let e : mask_l ms ≡ 65535 = sym whole ∙ eqb-true _ _ full in
    let n : 2 ^ length ms ≡ 65536 = ap (λ k. 2 ^ k) many in
    let set = all_set ms (omega (arith, e, n)) j (let m = many in omega arith) in
    let at : get_or ms j false ≡ eqb (get_or v j 0) (get_or zeros j 0) = get_or-zip2 eqb v zeros j 0 0 false (subst (λ n. j < n) (sym long) h) h in
    eqb-true _ _ (sym at ∙ set) ∙ splat_lane 0 j h

-- ---- the values near 0

under : (z : ℤ) (k : ℕ) → pos 0 ≤ℤ z → (z +ℤ pos 1) ≤ℤ pos k → floor_div z k ≡ pos 0
under (pos n) k low high =
    let small : n < k = omega (arith, ints) in
    let none : n / k < 1 = div_below n k 1 (omega arith) (omega arith) in
    ap pos (let e : n / k ≡ 0 = omega arith in e)
under (negsuc n) k low high = absurd (omega (arith, ints))

pub no_eighth : (n : ℕ) → (128 ≤ n + 3) × (n ≤ 128 + 3) → HasNoEighth (pos n -ℤ pos 128)
no_eighth n near =
    let low = near.0 in
    let high = near.1 in
    (under _ 8 (omega (arith, ints, clamps)) (omega (arith, ints, clamps)), under _ 8 (omega (arith, ints, clamps)) (omega (arith, ints, clamps)))

pub no_share : (n : ℕ) → (128 ≤ n + 2) × (n ≤ 128 + 2) → HasNoEighth (pos n -ℤ pos 128) × HasNoShare (pos n -ℤ pos 128)
no_share n near =
    let low = near.0 in
    let high = near.1 in
    let z : ℤ = pos n -ℤ pos 128 in (
      no_eighth n (omega arith, omega arith),
      (
        ap clamp8 (under (z *ℤ pos 9 +ℤ pos 63) 128 (omega (arith, ints)) (omega (arith, ints))),
        ap clamp8 (under (z *ℤ pos 18 +ℤ pos 63) 128 (omega (arith, ints)) (omega (arith, ints))),
        ap clamp8 (under (z *ℤ pos 27 +ℤ pos 63) 128 (omega (arith, ints)) (omega (arith, ints))),
      ),
    )
