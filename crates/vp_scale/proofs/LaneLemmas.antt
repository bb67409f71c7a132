-- Sums of blocks of pixels, eight blocks side by side.
use Rattle.std.proofs.Common.{◌≡◌, ◌∙◌, refl, ℕ, zero, suc, ◌+◌, ◌-◌, ◌*◌, ◌/◌, ◌^◌, ◌<◌, ◌≤◌, ◌⊎◌, ◌++◌, List, ◌∷◌, length, map, get_or, drop, length-drop, sum, min, sym, ap, subst, arith, inl, inr}
use Rattle.std.proofs.lemmas.Bool.{cases_lt}
use Rattle.std.proofs.lemmas.List.{get_or_append_left, get_or-append_right, get_or-drop, drop-drop, ext_get_or}
use Rattle.std.proofs.lemmas.Simd.{get_or-put_chunk_at, get_or-put_chunk_below, get_or-put_chunk_above}
use Rattle.std.specs.Simd.Lanes.{put_chunk}
use Rattle.std.proofs.lemmas.List.Sums.{sum_by-append}
use Rattle.std.proofs.lemmas.List.FromFn.{length-map-range_with_len, get_or-map-range_with_len}
use Rattle.std.specs.List.{range_with_len}
use Rattle.vp_base.specs.Raster.{Raster, pixel}
use Rattle.vp_base.specs.Block.{numbers}
use Rattle.vp_base.proofs.BlockLemmas.{length-numbers, numbers_none, numbers_more}
use Rattle.vp_scale.specs.Scale.{IsFactor, scaled_side}
use Rattle.vp_scale.specs.Means.{nearest, square, rounded_mean}
use Rattle.vp_scale.specs.Runs.{block_sum}
use Rattle.vp_scale.proofs.SideLemmas.{by_factor}

pub below_four : (P : ℕ → Type 0) → P 0 → P 1 → P 2 → P 3 → (j : ℕ) → j < 4 → P j
below_four P p0 p1 p2 p3 zero h = p0
below_four P p0 p1 p2 p3 (suc zero) h = p1
below_four P p0 p1 p2 p3 (suc (suc zero)) h = p2
below_four P p0 p1 p2 p3 (suc (suc (suc zero))) h = p3
below_four P p0 p1 p2 p3 (suc (suc (suc (suc n)))) h = absurd (omega arith)

pub fore : (a b : List ℕ) (k : ℕ) → length a ≡ 8 → k < 8 → get_or (a ++ b) k 0 ≡ get_or a k 0
fore a b k long h = get_or_append_left a b 0 k (omega arith)

pub back : (a b : List ℕ) (k i : ℕ) → length a ≡ 8 → i ≡ 8 + k → get_or (a ++ b) i 0 ≡ get_or b k 0
back a b k i long h = let e : i - 8 ≡ k = omega arith in get_or-append_right a b 8 i 0 long (omega arith) ∙ ap (λ n. get_or b n 0) e

-- ---- sums of blocks
-- the sum of n numbers from number a on
abbrev row_sum : (ℕ → ℕ) → ℕ → ℕ → ℕ
row_sum f a n = sum (map f (range_with_len a n))

ranges : (f : ℕ → ℕ) (a n m : ℕ) → map f (range_with_len a (n + m)) ≡ map f (range_with_len a n) ++ map f (range_with_len (a + n) m)
ranges f a zero m =
    let z : 0 + m ≡ m = omega arith in
    let s : a ≡ a + 0 = omega arith in
    ap (λ k. map f (range_with_len a k)) z ∙ ap (λ b. map f (range_with_len b m)) s
ranges f a (suc n) m =
    let z : suc n + m ≡ suc (n + m) = omega arith in
    let e : a + 1 + n ≡ a + suc n = omega arith in
    ap (λ k. map f (range_with_len a k)) z
    ∙ ap (λ (l : List ℕ). f a ∷ l) (ranges f (a + 1) n m ∙ ap (λ b. map f (range_with_len (a + 1) n) ++ map f (range_with_len b m)) e)

row_sum-append : (f : ℕ → ℕ) (a n m : ℕ) → row_sum f a (n + m) ≡ row_sum f a n + row_sum f (a + n) m
row_sum-append f a n m = ap sum (ranges f a n m) ∙ sum_by-append (λ i. i) (map f (range_with_len a n)) (map f (range_with_len (a + n) m))

moved : (f g : ℕ → ℕ) (n a m : ℕ) → ((c : ℕ) → f (n + c) ≡ g c) → map f (range_with_len (n + a) m) ≡ map g (range_with_len a m)
moved f g n a zero same = refl
moved f g n a (suc m) same =
    let e : n + a + 1 ≡ n + (a + 1) = omega arith in
    λ i. same a i ∷ (ap (λ b. map f (range_with_len b m)) e ∙ moved f g n (a + 1) m same) i

row_sum-moved : (f g : ℕ → ℕ) (n a m : ℕ) → ((c : ℕ) → f (n + c) ≡ g c) → row_sum f (n + a) m ≡ row_sum g a m
row_sum-moved f g n a m same = ap sum (moved f g n a m same)

rows_more : (n k : ℕ) (g : ℕ → ℕ → ℕ) → sum (numbers n (k + 1) g) ≡ sum (numbers n k g) + row_sum (λ c. g c k) 0 n
rows_more n k g =
    let row : List ℕ = map (λ c. g c k) (range_with_len 0 n) in
    sym (sym (sum_by-append (λ i. i) (numbers n k g) row)
    ∙ ap sum (numbers_more n k g row (length-map-range_with_len (λ c. g c k) 0 n)
    (λ c below. get_or-map-range_with_len (λ c. g c k) 0 n c c 0 below (omega arith))))

rows_suc : (n k : ℕ) (g : ℕ → ℕ → ℕ) → sum (numbers n (suc k) g) ≡ sum (numbers n k g) + row_sum (λ c. g c k) 0 n
rows_suc n k g = let e : suc k ≡ k + 1 = omega arith in ap (λ r. sum (numbers n r g)) e ∙ rows_more n k g

no_rows : (n : ℕ) (g : ℕ → ℕ → ℕ) → sum (numbers n 0 g) ≡ 0
no_rows n g = ap sum (numbers_none n g)

pub no_block : (n : ℕ) (p : Raster) (x y : ℕ) → 0 ≡ block_sum n 0 p x y
unfolding block_sum
no_block n p x y = sym (no_rows n (λ c r. nearest p (x + c) (y + r)))

-- a row more of one column
pub column_more : (k : ℕ) (p : Raster) (x y v total : ℕ) → x < p.width → y + k < p.height → total ≡ block_sum 1 k p x y → v ≡ pixel p x (y + k)
    → total + v ≡ block_sum 1 (k + 1) p x y
unfolding block_sum
column_more k p x y v total xin yin is_total is_v =
    let a : min (x + 0) (p.width - 1) ≡ x = omega arith in
    let b : min (y + k) (p.height - 1) ≡ y + k = omega arith in
    let near : nearest p (x + 0) (y + k) ≡ pixel p x (y + k) = λ i. pixel p (a i) (b i) in
    let more = rows_more 1 k (λ c r. nearest p (x + c) (y + r)) in
    omega arith

numbers_joined : (n m k : ℕ) (g h : ℕ → ℕ → ℕ) → ((c r : ℕ) → g (n + c) r ≡ h c r) → sum (numbers (n + m) k g) ≡ sum (numbers n k g) + sum (numbers m k h)
numbers_joined n m zero g h same =
    let a = no_rows (n + m) g in
    let b = no_rows n g in
    let c = no_rows m h in
    omega (arith, a, b, c)
numbers_joined n m (suc k) g h same =
    let before : sum (numbers (n + m) k g) ≡ sum (numbers n k g) + sum (numbers m k h) = numbers_joined n m k g h same in
    let s : ℕ → ℕ = λ c. g c k in
    let whole : sum (numbers (n + m) (suc k) g) ≡ sum (numbers (n + m) k g) + row_sum s 0 (n + m) = rows_suc (n + m) k g in
    let left : sum (numbers n (suc k) g) ≡ sum (numbers n k g) + row_sum s 0 n = rows_suc n k g in
    let right : sum (numbers m (suc k) h) ≡ sum (numbers m k h) + row_sum (λ c. h c k) 0 m = rows_suc m k h in
    let split : row_sum s 0 (n + m) ≡ row_sum s 0 n + row_sum s (0 + n) m = row_sum-append s 0 n m in
    let moved : row_sum s (0 + n) m ≡ row_sum (λ c. h c k) 0 m =
    (let e : 0 + n ≡ n + 0 = omega arith in ap (λ b. row_sum s b m) e) ∙ row_sum-moved s (λ c. h c k) n 0 m (λ c. same c k) in
    omega (arith, before, whole, left, right, split, moved)

-- two blocks side by side
pub blocks_joined : (n m k : ℕ) (p : Raster) (x y : ℕ) → block_sum (n + m) k p x y ≡ block_sum n k p x y + block_sum m k p (x + n) y
unfolding block_sum
blocks_joined n m k p x y =
    numbers_joined n m k (λ c r. nearest p (x + c) (y + r)) (λ c r. nearest p (x + n + c) (y + r))
    (λ c r. let e : x + (n + c) ≡ x + n + c = omega arith in ap (λ b. nearest p b (y + r)) e)

-- the sums of pairs of blocks of n columns are those of blocks of twice as many
pub pairs_are : (n k : ℕ) (p : Raster) (x y : ℕ) (a b r : List ℕ)
    → ((j : ℕ) → j < 8 → get_or a j 0 ≡ block_sum n k p (x + n * j) y)
    → ((j : ℕ) → j < 8 → get_or b j 0 ≡ block_sum n k p (x + n * 8 + n * j) y)
    → ((j : ℕ) → j < 4 → get_or r j 0 ≡ get_or a (2 * j) 0 + get_or a (2 * j + 1) 0)
    → ((j : ℕ) → j < 4 → get_or r (4 + j) 0 ≡ get_or b (2 * j) 0 + get_or b (2 * j + 1) 0)
    → (j : ℕ) → j < 8 → get_or r j 0 ≡ block_sum (n + n) k p (x + (n + n) * j) y
pairs_are n k p x y a b r is_a is_b front behind j h =
    elim (cases_lt j 4) [
      | inl early ↦
          let e : x + n * (2 * j) ≡ x + (n + n) * j = omega arith in
          let f : x + n * (2 * j + 1) ≡ x + (n + n) * j + n = omega arith in
          front j early
          ∙ (λ i. (is_a (2 * j) (omega arith) ∙ ap (λ z. block_sum n k p z y) e) i + (is_a (2 * j + 1) (omega arith) ∙ ap (λ z. block_sum n k p z y) f) i)
          ∙ sym (blocks_joined n n k p (x + (n + n) * j) y)
      | inr late ↦
          let i : ℕ = j - 4 in
          let s : 4 + i ≡ j = omega arith in
          let e : x + n * 8 + n * (2 * i) ≡ x + (n + n) * (4 + i) = omega arith in
          let f : x + n * 8 + n * (2 * i + 1) ≡ x + (n + n) * (4 + i) + n = omega arith in
          subst (λ j. get_or r j 0 ≡ block_sum (n + n) k p (x + (n + n) * j) y) s
          (behind i (omega arith)
          ∙ (λ t. (is_b (2 * i) (omega arith) ∙ ap (λ z. block_sum n k p z y) e) t + (is_b (2 * i + 1) (omega arith) ∙ ap (λ z. block_sum n k p z y) f) t)
          ∙ sym (blocks_joined n n k p (x + (n + n) * (4 + i)) y))
    ]

pub pairs_small : (most : ℕ) (a b r : List ℕ)
    → ((j : ℕ) → j < 8 → get_or a j 0 ≤ most) → ((j : ℕ) → j < 8 → get_or b j 0 ≤ most)
    → ((j : ℕ) → j < 4 → get_or r j 0 ≡ get_or a (2 * j) 0 + get_or a (2 * j + 1) 0)
    → ((j : ℕ) → j < 4 → get_or r (4 + j) 0 ≡ get_or b (2 * j) 0 + get_or b (2 * j + 1) 0)
    → (j : ℕ) → j < 8 → get_or r j 0 ≤ most + most
pairs_small most a b r small_a small_b front behind j h =
    elim (cases_lt j 4) [
      | inl early ↦ omega (arith, front j early, small_a (2 * j) (omega arith), small_a (2 * j + 1) (omega arith))
      | inr late ↦
          let i : ℕ = j - 4 in
          let s : 4 + i ≡ j = omega arith in
          subst (λ j. get_or r j 0 ≤ most + most) s (omega (arith, behind i (omega arith), small_b (2 * i) (omega arith), small_b (2 * i + 1) (omega arith)))
    ]

-- ---- means
abbrev pub IsShift : ℕ → Type 0
IsShift s = (s ≡ 2) ⊎ (s ≡ 4) ⊎ (s ≡ 6)

mean_fits_at : (s : ℕ) → (s ≡ 2) ⊎ (s ≡ 4) ⊎ (s ≡ 6) → (sum half : ℕ) → 2 * half ≡ 2 ^ s → sum ≤ 255 * (2 * half) → (sum + half) / 2 ^ s < 256
mean_fits_at s is sum half count bytes =
    elim is [
      | inl e ↦ subst (λ s. 2 * half ≡ 2 ^ s → (sum + half) / 2 ^ s < 256) (sym e) (λ c. omega arith) count
      | inr (inl e) ↦ subst (λ s. 2 * half ≡ 2 ^ s → (sum + half) / 2 ^ s < 256) (sym e) (λ c. omega arith) count
      | inr (inr e) ↦ subst (λ s. 2 * half ≡ 2 ^ s → (sum + half) / 2 ^ s < 256) (sym e) (λ c. omega arith) count
    ]

pub mean_fits : (s sum half : ℕ) → IsShift s → 2 * half ≡ 2 ^ s → sum ≤ 255 * (2 * half) → (sum + half) / 2 ^ s < 256
mean_fits s sum half is count bytes = mean_fits_at s is sum half count bytes

-- the mean of a square, by its sum
pub mean_of_sum : (k half : ℕ) (p : Raster) (x y s : ℕ) → s ≡ block_sum k k p x y → 2 * half ≡ k * k → (s + half) / (2 * half) ≡ rounded_mean (square k p x y)
unfolding block_sum
mean_of_sum k half p x y s is count =
    let n : 2 * half ≡ length (square k p x y) = count ∙ sym (length-numbers k k (λ c r. nearest p (x + c) (y + r))) in
    let h : half ≡ length (square k p x y) / 2 = omega (arith, n) in
    λ i. (is i + h i) / n i

-- ---- groups of eight
pub groups_inside : (k g w : ℕ) → IsFactor k → g * (8 * k) ≤ w → 8 * g ≤ scaled_side k w
groups_inside k g w is = by_factor (λ k. g * (8 * k) ≤ w → 8 * g ≤ scaled_side k w) k is (λ h. omega arith) (λ h. omega arith) (λ h. omega arith) (λ h. omega arith)

-- one group more
pub group_put : (P : ℕ → ℕ → Type 0) (row v : List ℕ) (g : ℕ) → length v ≡ 8 → 8 * g + 8 ≤ length row
    → ((x : ℕ) → x < 8 * g → P x (get_or row x 0)) → ((j : ℕ) → j < 8 → P (8 * g + j) (get_or v j 0))
    → (x : ℕ) → x < 8 * (g + 1) → P x (get_or (put_chunk (8 * g) row v) x 0)
group_put P row v g long room before here x h =
    elim (cases_lt x (8 * g)) [
      | inl early ↦ subst (P x) (sym (get_or-put_chunk_below (8 * g) row v x 0 early)) (before x early)
      | inr late ↦
          let j : ℕ = x - 8 * g in
          let e : 8 * g + j ≡ x = omega arith in
          subst (λ k. P k (get_or (put_chunk (8 * g) row v) k 0)) e
          (subst (P (8 * g + j)) (sym (get_or-put_chunk_at (8 * g) row v j 0 (omega arith) (omega arith))) (here j (omega arith)))
    ]

pub group_behind : (row v : List ℕ) (at n : ℕ) → length v ≡ 8 → at + 8 ≤ n → length (put_chunk at row v) ≡ length row
    → drop n (put_chunk at row v) ≡ drop n row
group_behind row v at n long h same =
    ext_get_or 0 (drop n (put_chunk at row v)) (drop n row)
    (length-drop n (put_chunk at row v) ∙ ap (λ l. l - n) same ∙ sym (length-drop n row))
    (λ c below. get_or-drop n (put_chunk at row v) c 0 ∙ get_or-put_chunk_above at row v (n + c) 0 (omega arith) ∙ sym (get_or-drop n row c 0))

pub drop_further : (a b : ℕ) (xs ys : List ℕ) → a ≤ b → drop a xs ≡ drop a ys → drop b xs ≡ drop b ys
drop_further a b xs ys h e =
    let s : a + (b - a) ≡ b = omega arith in
    subst (λ n. drop n xs ≡ drop n ys) s (sym (drop-drop (b - a) a xs) ∙ ap (drop (b - a)) e ∙ drop-drop (b - a) a ys)
