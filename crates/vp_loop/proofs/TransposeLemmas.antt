-- Sixteen rows of eight bytes, joined two by two.
use Rattle.std.proofs.Common.{◌≡◌, ℕ, zero, suc, ◌+◌, ◌-◌, ◌*◌, ◌/◌, ◌%◌, ◌<◌, List, [], ◌∷◌, ◌++◌, length, get_or, refl, ap, ◌∙◌, subst, arith}
use Rattle.std.proofs.lemmas.List.{get_or_append_left, get_or-append_right}
use Rattle.vp_loop.specs.Edges.{line_from}
use Rattle.vp_loop.specs.Lanes.{line_in}

pub below_four : (P : ℕ → Type 0) → P 0 → P 1 → P 2 → P 3 → (j : ℕ) → j < 4 → P j
below_four P p0 p1 p2 p3 zero h = p0
below_four P p0 p1 p2 p3 (suc zero) h = p1
below_four P p0 p1 p2 p3 (suc (suc zero)) h = p2
below_four P p0 p1 p2 p3 (suc (suc (suc zero))) h = p3
below_four P p0 p1 p2 p3 (suc (suc (suc (suc n)))) h = absurd (omega arith)

pub below_sixteen : (P : ℕ → Type 0) → P 0 → P 1 → P 2 → P 3 → P 4 → P 5 → P 6 → P 7
    → P 8 → P 9 → P 10 → P 11 → P 12 → P 13 → P 14 → P 15 → (k : ℕ) → k < 16 → P k
below_sixteen P a0 a1 a2 a3 b0 b1 b2 b3 c0 c1 c2 c3 d0 d1 d2 d3 k h =
    let place : 4 * (k / 4) + k % 4 ≡ k = omega arith in
    subst P place (below_four (λ row. (col : ℕ) → col < 4 → P (4 * row + col))
    (below_four _ a0 a1 a2 a3) (below_four _ b0 b1 b2 b3) (below_four _ c0 c1 c2 c3) (below_four _ d0 d1 d2 d3)
    (k / 4) (omega arith) (k % 4) (omega arith))

pub low : (n : ℕ) (a b : List ℕ) (k : ℕ) → length a ≡ n → k < n → get_or (a ++ b) k 0 ≡ get_or a k 0
low n a b k l h = get_or_append_left a b 0 k (omega arith)

pub high : (n : ℕ) (a b : List ℕ) (k i : ℕ) → length a ≡ n → i ≡ n + k → get_or (a ++ b) i 0 ≡ get_or b k 0
high n a b k i l h = let e : i - n ≡ k = omega arith in get_or-append_right a b n i 0 l (omega arith) ∙ ap (λ (m : ℕ). get_or b m 0) e

pub line_from-same : (f g : ℕ → ℕ) → ((k : ℕ) → k < 8 → f k ≡ g k) → line_from f ≡ line_from g
line_from-same f g all =
    let e0 = all 0 (omega arith) in let e1 = all 1 (omega arith) in let e2 = all 2 (omega arith) in let e3 = all 3 (omega arith) in
    let e4 = all 4 (omega arith) in let e5 = all 5 (omega arith) in let e6 = all 6 (omega arith) in let e7 = all 7 (omega arith) in
    λ i. record { p3 = e0 i; p2 = e1 i; p1 = e2 i; p0 = e3 i; q0 = e4 i; q1 = e5 i; q2 = e6 i; q3 = e7 i }

pub front : (a b : List ℕ) → length a ≡ 8 → line_in (a ++ b) ≡ line_in a
front a b l = line_from-same (λ k. get_or (a ++ b) k 0) (λ k. get_or a k 0) (λ k h. low 8 a b k l h)

pub back : (a b : List ℕ) → length a ≡ 8 → line_from (λ k. get_or (a ++ b) (8 + k) 0) ≡ line_in b
back a b l = line_from-same (λ k. get_or (a ++ b) (8 + k) 0) (λ k. get_or b k 0) (λ k h. high 8 a b k (8 + k) l refl)

pub below_eight : (P : ℕ → Type 0) → P 0 → P 1 → P 2 → P 3 → P 4 → P 5 → P 6 → P 7 → (k : ℕ) → k < 8 → P k
below_eight P a0 a1 a2 a3 b0 b1 b2 b3 k h =
    let place : 4 * (k / 4) + k % 4 ≡ k = omega arith in
    subst P place (below_two (λ row. (col : ℕ) → col < 4 → P (4 * row + col)) (below_four _ a0 a1 a2 a3) (below_four _ b0 b1 b2 b3)
    (k / 4) (omega arith) (k % 4) (omega arith))
  where
    below_two : (P : ℕ → Type 0) → P 0 → P 1 → (j : ℕ) → j < 2 → P j
    below_two P p0 p1 zero h = p0
    below_two P p0 p1 (suc zero) h = p1
    below_two P p0 p1 (suc (suc n)) h = absurd (omega arith)

-- ---- and back: row m of eight columns, which were joined two by two
abbrev pub joined : List ℕ → List ℕ → List ℕ → List ℕ → List ℕ → List ℕ → List ℕ → List ℕ → ℕ → List ℕ
joined c0 c1 c2 c3 c4 c5 c6 c7 m =
    get_or (c0 ++ c4) m 0 ∷ get_or (c1 ++ c5) m 0 ∷ get_or (c2 ++ c6) m 0 ∷ get_or (c3 ++ c7) m 0
    ∷ get_or (c0 ++ c4) (16 + m) 0 ∷ get_or (c1 ++ c5) (16 + m) 0 ∷ get_or (c2 ++ c6) (16 + m) 0 ∷ get_or (c3 ++ c7) (16 + m) 0 ∷ []

pub joined_is : (c0 c1 c2 c3 c4 c5 c6 c7 : List ℕ) (m : ℕ) → length c0 ≡ 16 → length c1 ≡ 16 → length c2 ≡ 16 → length c3 ≡ 16 → m < 16
    → joined c0 c1 c2 c3 c4 c5 c6 c7 m ≡ (get_or c0 m 0 ∷ get_or c1 m 0 ∷ get_or c2 m 0 ∷ get_or c3 m 0 ∷ get_or c4 m 0 ∷ get_or c5 m 0 ∷ get_or c6 m 0 ∷ get_or c7 m 0 ∷ [])
joined_is c0 c1 c2 c3 c4 c5 c6 c7 m l0 l1 l2 l3 h = grind (arith, low, high)

-- .. and of four
abbrev pub joined_four : List ℕ → List ℕ → List ℕ → List ℕ → ℕ → List ℕ
joined_four c0 c1 c2 c3 m =
    get_or (c0 ++ c2) m 0 ∷ get_or (c1 ++ c3) m 0 ∷ get_or (c0 ++ c2) (16 + m) 0 ∷ get_or (c1 ++ c3) (16 + m) 0 ∷ []

pub joined_four_is : (c0 c1 c2 c3 : List ℕ) (m : ℕ) → length c0 ≡ 16 → length c1 ≡ 16 → m < 16
    → joined_four c0 c1 c2 c3 m ≡ (get_or c0 m 0 ∷ get_or c1 m 0 ∷ get_or c2 m 0 ∷ get_or c3 m 0 ∷ [])
joined_four_is c0 c1 c2 c3 m l0 l1 h = grind (arith, low, high)
