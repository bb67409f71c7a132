-- SmallInputs as rows of numbers that the code keeps in 16 bits, and their sums with pixels.
use Rattle.std.proofs.Common.{◌≡◌, ◌∙◌, ℕ, ◌+◌, ◌*◌, ◌<◌, ◌≤◌, ℤ, pos, negsuc, ◌+ℤ◌, ◌≤ℤ◌, min, List, [], ◌∷◌, map, length, zero, suc, unsigned_abs, get_or, to_z, of_z, w16, replicate, refl, sym, ap, arith, inl, inr, ◌-◌, ◌/◌, ◌%◌, subst}
use Rattle.vp_recon.proofs.Words.{rounded-at_most, rounded, HasBlock, lanes_of, clamp_to_pixel, HasEqualSums, IsNothing, row_lane, AreRows, AreLow, Four, lane, EachWithin, row_in, even_block, odd_block, coded16, handed16, passed16, short16_fits, below_four, sixteen, cases_lt, ints, clamps, to_z-of_z, get_or-replicate, get_or_past, int_min, int_max}
use mir.Val.{SFits}
use Rattle.vp_transform.specs.Short.{cut}
use Rattle.vp_recon.specs.Rebuilt.{summed}

pub summed-zero : (p : ℕ) → p ≤ 255 → summed p (pos 0) ≡ p
unfolding summed
summed-zero p fits = let e : min (p + 0) 255 ≡ p = omega arith in e

clamp_to_pixel-low : (z : ℤ) → z ≤ℤ pos 0 → clamp_to_pixel z ≡ 0
clamp_to_pixel-low (pos n) low = let e : min n 255 ≡ 0 = omega (arith, ints) in e
clamp_to_pixel-low (negsuc n) low = refl

summed-low : (p n : ℕ) → p ≤ n + 1 → summed p (negsuc n) ≡ 0
unfolding summed
summed-low p n below = clamp_to_pixel-low (pos p +ℤ negsuc n) (omega (arith, ints))

pub summed-cut : (p : ℕ) (z : ℤ) → p ≤ 255 → summed p (cut z) ≡ summed p z
unfolding summed cut
summed-cut p (pos n) fits = let e : min (p + min n 32767) 255 ≡ min (p + n) 255 = omega arith in e
summed-cut p (negsuc n) fits = elim (cases_lt n 32767) [
  | inl small ↦ ap (λ (m : ℕ). summed p (negsuc m)) (let e : min n 32767 ≡ n = omega arith in e)
  | inr large ↦ summed-low p (min n 32767) (omega arith) ∙ sym (summed-low p n (omega arith))
]

-- ---- in lanes
lanes_byte : (z : ℤ) → unsigned_abs (int_min (pos 255) (int_max (pos 0) z)) ≡ clamp_to_pixel z
lanes_byte (pos n) = let e : int_min (pos 255) (int_max (pos 0) (pos n)) ≡ pos (min n 255) = omega (arith, ints, clamps) in ap unsigned_abs e
lanes_byte (negsuc n) = let e : int_min (pos 255) (int_max (pos 0) (negsuc n)) ≡ pos 0 = omega (arith, ints, clamps) in ap unsigned_abs e

pub lanes_summed : (p : ℕ) (z : ℤ) → unsigned_abs (int_min (pos 255) (int_max (pos 0) (pos p +ℤ z))) ≡ summed p z
unfolding summed
lanes_summed p z = lanes_byte (pos p +ℤ z)

-- numbers of i16, as lanes have them
pub lane_kept : (numbers : List ℤ) (i : ℕ) → SFits w16 (get_or numbers i (pos 0)) → get_or (map (to_z w16) (map (of_z w16) numbers)) i (pos 0) ≡ get_or numbers i (pos 0)
lane_kept numbers i fits = coded_at numbers i ∙ to_z-of_z w16 (get_or numbers i (pos 0)) fits
  where
    coded_at : (zs : List ℤ) (j : ℕ) → get_or (map (to_z w16) (map (of_z w16) zs)) j (pos 0) ≡ to_z w16 (of_z w16 (get_or zs j (pos 0)))
    coded_at [] j = refl
    coded_at (z ∷ zs) zero = refl
    coded_at (z ∷ zs) (suc j) = coded_at zs j

-- ---- what is kept
pub equal_sums : (xs ys : List ℤ) → xs ≡ ys → HasEqualSums xs ys
equal_sums xs ys e i below pixel byte = ap (λ (zs : List ℤ). summed pixel (get_or zs i (pos 0))) e

-- a number that is cut gives the sums of the whole one
pub cut_kept : (kept residue : List ℤ) → ((i : ℕ) → i < 16 → get_or kept i (pos 0) ≡ cut (get_or residue i (pos 0))) → HasEqualSums kept residue
cut_kept kept residue e i below pixel byte = ap (summed pixel) (e i below) ∙ summed-cut pixel (get_or residue i (pos 0)) byte

-- the sums of a subblock without residue
pub nothing_added : (prediction : List ℕ) (zs : List ℤ) → IsNothing zs → ((i : ℕ) → i < 16 → get_or prediction i 0 ≤ 255)
    → (r c : ℕ) → r < 4 → c < 4 → get_or prediction (r * 4 + c) 0 ≡ summed (get_or prediction (r * 4 + c) 0) (get_or zs (4 * r + c) (pos 0))
nothing_added prediction zs nothing byte r c rin cin =
    let p : ℕ = get_or prediction (r * 4 + c) 0 in
    sym (summed-zero p (byte (r * 4 + c) (omega arith))) ∙ ap (summed p) (sym (nothing (4 * r + c) (omega arith)))

pub low_handed : (n : ℕ) (xs : List ℤ) → AreLow n xs → AreLow n (handed16 xs)
low_handed n xs low j h = subst (λ z. unsigned_abs z ≤ 8800) (sym (passed16 xs j 8800 (omega arith) (low j h))) (low j h)

pub rows_handed : (n : ℕ) (a b c d : List ℤ) (own : ℕ → List ℤ) → AreRows n a b c d own → AreRows n (handed16 a) (handed16 b) (handed16 c) (handed16 d) own
rows_handed n a b c d own rows =
    let same : (r j : ℕ) → r < 4 → j < n → row_lane (handed16 a) (handed16 b) (handed16 c) (handed16 d) r j ≡ row_lane a b c d r j =
    λ r j rin jin. below_four (λ i. row_lane (handed16 a) (handed16 b) (handed16 c) (handed16 d) i j ≡ row_lane a b c d i j)
    (passed16 a j 8800 (omega arith) (rows.low 0 j (omega arith) jin)) (passed16 b j 8800 (omega arith) (rows.low 1 j (omega arith) jin))
    (passed16 c j 8800 (omega arith) (rows.low 2 j (omega arith) jin)) (passed16 d j 8800 (omega arith) (rows.low 3 j (omega arith) jin)) r rin in
    record {
      low = λ r j rin jin. subst (λ z. unsigned_abs z ≤ 8800) (sym (same r j rin jin)) (rows.low r j rin jin);
      sums = λ r j pixel rin jin byte. ap (summed pixel) (same r j rin jin) ∙ rows.sums r j pixel rin jin byte;
    }

pub own_same : (own : ℕ → List ℤ) (k l n m : ℕ) → k ≡ l → n ≡ m → get_or (own k) n (pos 0) ≡ get_or (own l) m (pos 0)
own_same own k l n m e f = cc

-- ---- residues of one number each
even : (row : List ℤ) (r j : ℕ) → r < 4 → row_lane row row row row r j ≡ lane row j
even row r j = below_four (λ i. row_lane row row row row i j ≡ lane row j) refl refl refl refl r

pub rounded_small : (first : ℤ) → unsigned_abs first ≤ 2200 → unsigned_abs (rounded first) ≤ 275
rounded_small first small = (rounded-at_most first 4 275 (omega arith) (record { size = omega arith })).size

-- the residue of each DC coefficient four times
pub flat_rows : (n : ℕ) (row : List ℤ) (first : ℕ → ℤ) (own : ℕ → List ℤ) → ((i j : ℕ) → 4 * i < n → j < 4 → lane row (4 * i + j) ≡ rounded (first i))
    → ((i : ℕ) → 4 * i < n → unsigned_abs (first i) ≤ 2200) → ((i : ℕ) → 4 * i < n → own i ≡ replicate 16 (rounded (first i))) → AreRows n row row row row own
flat_rows n row first own lanes small are =
    let number : (r j : ℕ) → r < 4 → j < n → row_lane row row row row r j ≡ rounded (first (j / 4)) =
    λ r j rin jin. even row r j rin ∙ ap (λ (k : ℕ). lane row k) (let e : j ≡ 4 * (j / 4) + j % 4 = omega arith in e) ∙ lanes (j / 4) (j % 4) (omega arith) (omega arith) in
    record {
      low = λ r j rin jin. subst (λ z. unsigned_abs z ≤ 8800) (sym (number r j rin jin))
          (let l = rounded_small (first (j / 4)) (small (j / 4) (omega arith)) in omega arith);
      sums = λ r j pixel rin jin byte.
          ap (summed pixel) (number r j rin jin ∙ sym (get_or-replicate 16 (4 * r + j % 4) (rounded (first (j / 4))) (pos 0) (omega arith))
          ∙ ap (λ (zs : List ℤ). get_or zs (4 * r + j % 4) (pos 0)) (sym (are (j / 4) (omega arith))));
    }

pub below_two : (P : ℕ → Type 0) → P 0 → P 1 → (i : ℕ) → i < 2 → P i
below_two P first second zero below = first
below_two P first second (suc zero) below = second
below_two P first second (suc (suc i)) below = absurd (omega arith)

pub by_halves : (P : ℕ → Type 0) → ((j : ℕ) → j < 8 → P j) → ((j : ℕ) → j < 8 → P (8 + j)) → (k : ℕ) → k < 16 → P k
by_halves P first second k below = elim (cases_lt k 8) [
  | inl low ↦ first k low
  | inr high ↦ subst P (let e : 8 + (k - 8) ≡ k = omega arith in e) (second (k - 8) (omega arith))
]

-- ---- two residues whose coefficients are small
module _ (v : Four) (small : (r j : ℕ) → r < 4 → j < 8 → unsigned_abs (row_lane v.0 v.1 v.2 v.3 r j) ≤ 2200) (k : ℕ) (two : k < 2) (block : List ℤ) (long : length block ≡ 16) (has : HasBlock v k block) where
  -- as they are passed
  pub passed_block : HasBlock (handed16 v.0, handed16 v.1, handed16 v.2, handed16 v.3) k block
  passed_block r c rin cin =
      let j : ℕ = 2 * c + k in
      below_four (λ i. row_lane (handed16 v.0) (handed16 v.1) (handed16 v.2) (handed16 v.3) i (2 * c + k) ≡ row_lane v.0 v.1 v.2 v.3 i (2 * c + k))
      (passed16 v.0 j 2200 (omega arith) (small 0 j (omega arith) (omega arith))) (passed16 v.1 j 2200 (omega arith) (small 1 j (omega arith) (omega arith)))
      (passed16 v.2 j 2200 (omega arith) (small 2 j (omega arith) (omega arith))) (passed16 v.3 j 2200 (omega arith) (small 3 j (omega arith) (omega arith))) r rin
      ∙ has r c rin cin

  pub block_small : EachWithin 2200 block
  block_small i = elim (cases_lt i 16) [
    | inl low ↦
        subst (λ (z : ℤ). unsigned_abs z ≤ 2200) (has (i / 4) (i % 4) (omega arith) (omega arith) ∙ ap (λ (n : ℕ). get_or block n (pos 0)) (let e : 4 * (i / 4) + i % 4 ≡ i = omega arith in e))
        (small (i / 4) (2 * (i % 4) + k) (omega arith) (omega arith))
    | inr high ↦ subst (λ (z : ℤ). unsigned_abs z ≤ 2200) (sym (get_or_past block i (pos 0) (omega arith))) (omega arith)
  ]

module _ (v : Four) (block : List ℤ) (long : length block ≡ 16) where
  i : (0 < 4) × (1 < 4) × (2 < 4) × (3 < 4)
  i = (omega arith, omega arith, omega arith, omega arith)

  pub even_is : HasBlock v 0 block → even_block v.0 v.1 v.2 v.3 ≡ block
  even_is has =
      sixteen (has 0 0 i.0 i.0) (has 0 1 i.0 i.1) (has 0 2 i.0 i.2) (has 0 3 i.0 i.3) (has 1 0 i.1 i.0) (has 1 1 i.1 i.1) (has 1 2 i.1 i.2) (has 1 3 i.1 i.3)
      (has 2 0 i.2 i.0) (has 2 1 i.2 i.1) (has 2 2 i.2 i.2) (has 2 3 i.2 i.3) (has 3 0 i.3 i.0) (has 3 1 i.3 i.1) (has 3 2 i.3 i.2) (has 3 3 i.3 i.3)
      ∙ sym (lanes_of (pos 0) 16 block long).is

  pub odd_is : HasBlock v 1 block → odd_block v.0 v.1 v.2 v.3 ≡ block
  odd_is has =
      sixteen (has 0 0 i.0 i.0) (has 0 1 i.0 i.1) (has 0 2 i.0 i.2) (has 0 3 i.0 i.3) (has 1 0 i.1 i.0) (has 1 1 i.1 i.1) (has 1 2 i.1 i.2) (has 1 3 i.1 i.3)
      (has 2 0 i.2 i.0) (has 2 1 i.2 i.1) (has 2 2 i.2 i.2) (has 2 3 i.2 i.3) (has 3 0 i.3 i.0) (has 3 1 i.3 i.1) (has 3 2 i.3 i.2) (has 3 3 i.3 i.3)
      ∙ sym (lanes_of (pos 0) 16 block long).is

row_first : (x y : List ℤ) (r j : ℕ) → j < 4 → lane (row_in x y r) j ≡ get_or x (4 * r + j) (pos 0)
row_first x y r = below_four (λ j. lane (row_in x y r) j ≡ get_or x (4 * r + j) (pos 0)) refl refl refl refl

row_second : (x y : List ℤ) (r j : ℕ) → j < 4 → lane (row_in x y r) (4 + j) ≡ get_or y (4 * r + j) (pos 0)
row_second x y r = below_four (λ j. lane (row_in x y r) (4 + j) ≡ get_or y (4 * r + j) (pos 0)) refl refl refl refl

pub rows_beside : (own : ℕ → List ℤ) (x y v0 v1 v2 v3 : List ℤ) → AreLow 16 x → AreLow 16 y → HasEqualSums x (own 0) → HasEqualSums y (own 1)
    → v0 ≡ row_in x y 0 → v1 ≡ row_in x y 1 → v2 ≡ row_in x y 2 → v3 ≡ row_in x y 3 → AreRows 8 v0 v1 v2 v3 own
rows_beside own x y v0 v1 v2 v3 low_x low_y is_x is_y e0 e1 e2 e3 =
    let rows : (r j : ℕ) → r < 4 → row_lane v0 v1 v2 v3 r j ≡ lane (row_in x y r) j =
    λ r j rin. below_four (λ i. row_lane v0 v1 v2 v3 i j ≡ lane (row_in x y i) j)
    (ap (λ (v : List ℤ). lane v j) e0) (ap (λ (v : List ℤ). lane v j) e1) (ap (λ (v : List ℤ). lane v j) e2) (ap (λ (v : List ℤ). lane v j) e3) r rin in
    let left : (r j : ℕ) → r < 4 → j < 4 → row_lane v0 v1 v2 v3 r j ≡ get_or x (4 * r + j) (pos 0) = λ r j rin jin. rows r j rin ∙ row_first x y r j jin in
    let right : (r j : ℕ) → r < 4 → 4 ≤ j → j < 8 → row_lane v0 v1 v2 v3 r j ≡ get_or y (4 * r + (j - 4)) (pos 0) =
    λ r j rin from jin. rows r j rin ∙ ap (lane (row_in x y r)) (let e : j ≡ 4 + (j - 4) = omega arith in e) ∙ row_second x y r (j - 4) (omega arith) in
    record {
      low = λ r j rin jin. elim (cases_lt j 4) [
        | inl l ↦ subst (λ z. unsigned_abs z ≤ 8800) (sym (left r j rin l)) (low_x (4 * r + j) (omega arith))
        | inr h ↦ subst (λ z. unsigned_abs z ≤ 8800) (sym (right r j rin h jin)) (low_y (4 * r + (j - 4)) (omega arith))
      ];
      sums = λ r j pixel rin jin byte. elim (cases_lt j 4) [
        | inl l ↦
            ap (summed pixel) (left r j rin l)
            ∙ is_x (4 * r + j) (omega arith) pixel byte
            ∙ ap (summed pixel) (own_same own 0 (j / 4) (4 * r + j) (4 * r + j % 4) (omega arith) (omega arith))
        | inr h ↦
            ap (summed pixel) (right r j rin h jin)
            ∙ is_y (4 * r + (j - 4)) (omega arith) pixel byte
            ∙ ap (summed pixel) (own_same own 1 (j / 4) (4 * r + (j - 4)) (4 * r + j % 4) (omega arith) (omega arith))
      ];
    }

-- ---- a number held, which the code keeps in i16
pub short_coded : (z : ℤ) → unsigned_abs z ≤ 8800 → coded16 z ≡ z
short_coded z l = to_z-of_z w16 z (short16_fits z (omega arith))

-- clamped to -255..255
pub clamped_sum : (p : ℕ) (y z : ℤ) → p ≤ 255 → y ≡ int_min (pos 255) (int_max (negsuc 254) z) → summed p y ≡ summed p z
unfolding summed
clamped_sum p y (pos n) byte e =
    let f : y ≡ pos (min n 255) = e ∙ (let g : int_min (pos 255) (int_max (negsuc 254) (pos n)) ≡ pos (min n 255) = omega (arith, ints, clamps) in g) in
    ap (λ (v : ℤ). summed p v) f ∙ (let g : min (p + min n 255) 255 ≡ min (p + n) 255 = omega arith in g)
clamped_sum p y (negsuc n) byte e = elim (cases_lt n 255) [
  | inl near ↦
      ap (λ (v : ℤ). summed p v) (e ∙ (let g : int_min (pos 255) (int_max (negsuc 254) (negsuc n)) ≡ negsuc n = omega (arith, ints, clamps) in g))
  | inr far ↦
      ap (λ (v : ℤ). summed p v) (e ∙ (let g : int_min (pos 255) (int_max (negsuc 254) (negsuc n)) ≡ negsuc 254 = omega (arith, ints, clamps) in g))
      ∙ clamp_to_pixel-low (pos p +ℤ negsuc 254) (omega (arith, ints)) ∙ sym (clamp_to_pixel-low (pos p +ℤ negsuc n) (omega (arith, ints)))
]

pub clamped_low : (y z : ℤ) → y ≡ int_min (pos 255) (int_max (negsuc 254) z) → unsigned_abs y ≤ 8800
clamped_low y z e = omega (arith, ints, clamps)
