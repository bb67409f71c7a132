-- Lists made one after another, and sums of differences of listed blocks.
use Rattle.std.proofs.Common.{◌≡◌, ◌∙◌, ℕ, ◌+◌, ◌*◌, ◌/◌, ◌%◌, ◌<◌, add-mul, ℤ, pos, ◌-ℤ◌, List, length, get_or, map, sym, ap, arith}
use Rattle.std.specs.List.{range_with_len}
use Rattle.std.proofs.lemmas.Nat.{div_below, mod_below}
use Rattle.std.proofs.lemmas.List.FromFn.{length-map-range_with_len, get_or-map-range_with_len}
use Rattle.vp_intra.specs.Edges.{block}
use Rattle.vp_intra.proofs.BlockLemmas.{read_block, is_block}
use Rattle.vp_choose.specs.Levels.{part}
use Rattle.std.proofs.lemmas.List.{ext_get_or}
use Rattle.vp_search.specs.Differences.{sum_of_differences, block_from_rows}
use Rattle.vp_search.proofs.SumLemmas.{sum_of_differences-same}

-- a list whose items are those of f
pub is_mapped : {A : Type 0} (other : A) (n : ℕ) (f : ℕ → A) (xs : List A) → length xs ≡ n → ((i : ℕ) → i < n → get_or xs i other ≡ f i) → xs ≡ map f (range_with_len 0 n)
is_mapped other n f xs len same =
    ext_get_or other xs (map f (range_with_len 0 n)) (len ∙ sym (length-map-range_with_len f 0 n))
    (λ i below.
    let within : i < n = omega arith in
    same i within ∙ sym (get_or-map-range_with_len f 0 n i i other within (omega arith)))

-- ---- parts of listed blocks

four_rows : (q m w r c : ℕ) → 4 * q * w + 4 * m + r * w + c ≡ (4 * q + r) * w + (4 * m + c)
four_rows q m w r c = let e : (4 * q + r) * w ≡ 4 * q * w + r * w = add-mul (4 * q) r w in omega arith

pub part_listed : (across : ℕ) (f : ℕ → ℕ → ℕ) (xs ys : List ℕ) (k first : ℕ) → 0 < across → k < across * across
    → xs ≡ block (4 * across) f → first ≡ 4 * (k / across) * (4 * across) + 4 * (k % across) → length ys ≡ 16
    → ((i : ℕ) → i < 16 → get_or ys i 0 ≡ get_or xs (first + i / 4 * (4 * across) + i % 4) 0)
    → ys ≡ block 4 (part across f k)
part_listed across f xs ys k first some below ex ef len same =
    is_block 4 (part across f k) ys len (λ r c rin cin.
    let q : k / across < across = div_below k across across some below in
    let m : k % across < across = mod_below k across some in
    let row : (r * 4 + c) / 4 ≡ r = omega arith in
    let column : (r * 4 + c) % 4 ≡ c = omega arith in
    let at = four_rows (k / across) (k % across) (4 * across) r c in
    same (r * 4 + c) (omega arith)
    ∙ ap (λ (i : ℕ). get_or xs (first + i * (4 * across) + (r * 4 + c) % 4) 0) row
    ∙ ap (λ (i : ℕ). get_or xs (first + r * (4 * across) + i) 0) column
    ∙ ap (λ (i : ℕ). get_or xs (i + r * (4 * across) + c) 0) ef
    ∙ ap (λ (i : ℕ). get_or xs i 0) at
    ∙ ap (λ (zs : List ℕ). get_or zs ((4 * (k / across) + r) * (4 * across) + (4 * (k % across) + c)) 0) ex
    ∙ read_block (4 * across) f (4 * (k / across) + r) (4 * (k % across) + c) (omega arith) (omega arith))

-- the differences of two listed blocks
pub less_listed : (xs ys : List ℕ) (f g : ℕ → ℕ → ℕ) (zs : List ℤ) → xs ≡ block 4 f → ys ≡ block 4 g → length zs ≡ 16
    → ((i : ℕ) → i < 16 → get_or zs i (pos 0) ≡ pos (get_or xs i 0) -ℤ pos (get_or ys i 0))
    → zs ≡ map (λ i. pos (f (i / 4) (i % 4)) -ℤ pos (g (i / 4) (i % 4))) (range_with_len 0 16)
less_listed xs ys f g zs ex ey len same =
    is_mapped (pos 0) 16 (λ i. pos (f (i / 4) (i % 4)) -ℤ pos (g (i / 4) (i % 4))) zs len (λ i below.
    let at : i ≡ i / 4 * 4 + i % 4 = omega arith in
    let x : get_or xs i 0 ≡ f (i / 4) (i % 4) =
    ap (λ (j : ℕ). get_or xs j 0) at ∙ ap (λ (ws : List ℕ). get_or ws (i / 4 * 4 + i % 4) 0) ex ∙ read_block 4 f (i / 4) (i % 4) (omega arith) (omega arith) in
    let y : get_or ys i 0 ≡ g (i / 4) (i % 4) =
    ap (λ (j : ℕ). get_or ys j 0) at ∙ ap (λ (ws : List ℕ). get_or ws (i / 4 * 4 + i % 4) 0) ey ∙ read_block 4 g (i / 4) (i % 4) (omega arith) (omega arith) in
    same i below ∙ ap (λ (a : ℕ). pos a -ℤ pos (get_or ys i 0)) x ∙ ap (λ (a : ℕ). pos (f (i / 4) (i % 4)) -ℤ pos a) y)

-- of listed blocks
pub differences-listed : (n : ℕ) (xs ys : List ℕ) (f g : ℕ → ℕ → ℕ) → xs ≡ block n f → ys ≡ block n g
    → sum_of_differences n n (block_from_rows n xs) (block_from_rows n ys) ≡ sum_of_differences n n f g
differences-listed n xs ys f g ex ey =
    sum_of_differences-same n n (block_from_rows n xs) f (block_from_rows n ys) g
    (λ r c rin cin. ap (λ (zs : List ℕ). get_or zs (r * n + c) 0) ex ∙ read_block n f r c rin cin)
    (λ r c rin cin. ap (λ (zs : List ℕ). get_or zs (r * n + c) 0) ey ∙ read_block n g r c rin cin)
