-- The coefficients of blocks with few tokens or with none, and of blocks whose first one stands apart.
use Rattle.std.proofs.Common.{◌≡◌, ◌∙◌, refl, ◌*ℤ◌, ℕ, zero, suc, ◌-◌, ◌≤◌, ℤ, pos, List, [], ◌∷◌, get_or, set, take, drop, length, replicate, unsigned_abs, sym, ap, arith, inl, inr, false, true, Bool, ◌<◌, ◌+◌, ◌^◌, subst, ◌*◌, ◌/◌, ◌%◌}
use Rattle.vp_recon.proofs.Words.{Block, IsBlock, no_tokens, EachWithin, idct, iwht, rounded, idct-first_alone, iwht-first_alone, block_of, no_blocks, Tokens, Factors, residue, HasBlock, coefficients_after, SmallInputs, lane, coded16, handed16, passed16, AreRows, Four, row_lane, IsNothing, AreBlockBytes, block_sum, with_sums, with_chroma, even_block, odd_block, HasBlocks, HasTokens, coefficients_in, residue_in, HasUpTo, AreDcs, HasResidues, luma_dc, own_dc, residue_by, summed, residue_at, luma_made, chroma_made, luma_rebuilt, chroma_rebuilt, rebuilt, coded, read, fits-below, IsWhole, with_block, Place, Raster, with_block_same, Macroblock, macroblock_of, predicts_by_subblocks, has_y2, luma_prediction, chroma_prediction, luma_predicted, chroma_predicted, Image, IsAligned, macroblocks, with_plane, cases_lt, ext_get_or, get_or-replicate, get_or-take, get_or-drop, length-take, zero-*ℤ, get_or-chunk, no_tokens-good}
use Rattle.vp_quant.specs.Quant.{dequantised}
use Rattle.vp_recon.specs.Residue.{luma_dcs, luma_coefficients, luma_residue, chroma_residue}
use lib.Lanes.{chunk}
use Rattle.vp_recon.proofs.SumLemmas.{below_two, rows_handed, flat_rows, short_coded, summed-zero, passed_block, block_small, even_is, odd_is}
use Rattle.vp_recon.proofs.Parts.{was, sub_below, with_block_of}
use Rattle.vp_recon.specs.Predictor.{Predictor}
use Rattle.vp_recon.proofs.LumaLemmas.{luma_at_once}
use Rattle.vp_recon.proofs.PlaneLemmas.{predicted_bytes}

-- a number that 64 bits keep
pub exact : (z : ℤ) → unsigned_abs z ≤ 2 ^ 40 → coded z ≡ z
exact z small = read z (fits-below z (omega (arith, small)))

pub within_set : (b : ℕ) (zs : List ℤ) (k : ℕ) (z : ℤ) → EachWithin b zs → unsigned_abs z ≤ b → EachWithin b (set zs k z)
within_set b [] k z small fits i = small i
within_set b (y ∷ zs) zero z small fits zero = fits
within_set b (y ∷ zs) zero z small fits (suc i) = small (suc i)
within_set b (y ∷ zs) (suc k) z small fits zero = small zero
within_set b (y ∷ zs) (suc k) z small fits (suc i) = within_set b zs k z (λ j. small (suc j)) fits i

module _ (b : Block) (is : IsBlock b) where
  -- with at most one token there is no level but the first
  alone : b.end ≤ 1 → b.levels ≡ get_or b.levels 0 (pos 0) ∷ replicate 15 (pos 0)
  alone few = ext_get_or (pos 0) b.levels (get_or b.levels 0 (pos 0) ∷ replicate 15 (pos 0)) is.whole (λ i below. elim (cases_lt 0 i) [
    | inl some ↦
        is.behind i (omega arith)
        ∙ sym (get_or-replicate 15 (i - 1) (pos 0) (pos 0) (omega arith))
        ∙ ap (λ (j : ℕ). get_or (get_or b.levels 0 (pos 0) ∷ replicate 15 (pos 0)) j (pos 0)) (let e : suc (i - 1) ≡ i = omega arith in e)
    | inr none ↦
        ap (λ (j : ℕ). get_or b.levels j (pos 0)) (let e : i ≡ 0 = omega arith in e)
        ∙ ap (λ (j : ℕ). get_or (get_or b.levels 0 (pos 0) ∷ replicate 15 (pos 0)) j (pos 0)) (let e : 0 ≡ i = omega arith in e)
  ])

  pub first_alone : (first : ℤ) (ac : ℕ) → b.end ≤ 1 → first ∷ replicate 15 (pos 0) ≡ set (dequantised b.levels 0 ac) 0 first
  unfolding dequantised
  first_alone first ac few =
      ap (λ (w : ℤ). first ∷ replicate 15 w) (sym (zero-*ℤ (pos ac)))
      ∙ ap (λ (zs : List ℤ). set (dequantised zs 0 ac) 0 first) (sym (alone few))

  -- with none there is none at all
  no_coefficients : (dc ac : ℕ) → b.end ≡ 0 → dequantised b.levels dc ac ≡ replicate 16 (pos 0)
  unfolding dequantised
  no_coefficients dc ac none =
      ap (λ (zs : List ℤ). dequantised zs dc ac) (alone (omega arith) ∙ ap (λ (z : ℤ). z ∷ replicate 15 (pos 0)) (is.behind 0 (omega arith)))
      ∙ ap (λ (w : ℤ). w ∷ replicate 15 (pos 0 *ℤ pos ac)) (zero-*ℤ (pos dc))
      ∙ ap (λ (w : ℤ). pos 0 ∷ replicate 15 w) (zero-*ℤ (pos ac))

  pub no_residue : (dc ac : ℕ) → b.end ≡ 0 → residue b.levels dc ac ≡ replicate 16 (pos 0)
  no_residue dc ac none = ap idct (no_coefficients dc ac none) ∙ idct-first_alone (pos 0)

  pub no_dcs : (dc ac : ℕ) → b.end ≡ 0 → iwht (dequantised b.levels dc ac) ≡ replicate 16 (pos 0)
  no_dcs dc ac none = ap iwht (no_coefficients dc ac none) ∙ iwht-first_alone (pos 0)

-- a first coefficient from its own level
pub from_level : (levels : List ℤ) (dc ac : ℕ) (first : ℤ) → first ≡ get_or levels 0 (pos 0) *ℤ pos dc → coefficients_after first levels ac ≡ dequantised levels dc ac
unfolding dequantised
from_level levels dc ac first is = ap (λ (z : ℤ). coefficients_after z levels ac) is

-- the residue of a block with at most one token
pub even_residue : (b : Block) → HasUpTo 1 b → (first : ℤ) (ac : ℕ) → idct (coefficients_after first b.levels ac) ≡ replicate 16 (rounded first)
even_residue b few first ac = ap idct (sym (first_alone b few.0 first ac few.1)) ∙ idct-first_alone first

pub coefficients_long : (first : ℤ) (levels : List ℤ) (ac : ℕ) → length (coefficients_after first levels ac) ≡ 16
unfolding dequantised
coefficients_long first levels ac = refl

-- a row of residues of subblocks with DC coefficients only
pub alone_rows : (r : SmallInputs) (k m : ℕ) (row : List ℤ) → HasBlocks r (k + m) → ((i : ℕ) → i < m → HasTokens 1 r (k + i))
    → ((i j : ℕ) → i < m → j < 4 → lane row (4 * i + j) ≡ rounded (get_or r.dcs.now (k + i) (pos 0)))
    → AreRows (4 * m) (handed16 row) (handed16 row) (handed16 row) (handed16 row) (λ i. residue_in r (k + i))
alone_rows r k m row has alone lanes =
    rows_handed (4 * m) row row row row (λ i. residue_in r (k + i))
    (flat_rows (4 * m) row (λ i. get_or r.dcs.now (k + i) (pos 0)) (λ i. residue_in r (k + i)) (λ i j iin jin. lanes i j (omega arith) jin) (λ i iin. r.small (k + i) (omega (arith, has.0)))
    (λ i iin. even_residue (block_of r.tokens.now (r.first + (k + i))) (alone i (omega arith)) (get_or r.dcs.now (k + i) (pos 0)) r.ac))

-- four DC coefficients that are loaded
pub loaded : (dcs : List ℤ) (k j : ℕ) → j < 4 → k + j < length dcs → unsigned_abs (get_or dcs (k + j) (pos 0)) ≤ 2200
    → lane (handed16 (chunk 0 4 (take (length dcs - k) (drop k dcs)))) j ≡ get_or dcs (k + j) (pos 0)
loaded dcs k j four below small =
    let xs : List ℤ = take (length dcs - k) (drop k dcs) in
    let is : get_or (chunk 0 4 xs) j (pos 0) ≡ get_or dcs (k + j) (pos 0) =
    get_or-chunk 0 4 xs j (pos 0) four ∙ ap (λ (i : ℕ). get_or xs i (pos 0)) (let e : 0 + j ≡ j = omega arith in e) ∙ get_or-take (length dcs - k) (drop k dcs) j (pos 0) (omega arith) ∙ get_or-drop k dcs j (pos 0) in
    passed16 (chunk 0 4 xs) j 2200 (omega arith) (subst (λ (z : ℤ). unsigned_abs z ≤ 2200) (sym is) small) ∙ is

-- the coefficients of two subblocks, as they are passed in four rows
pub record AreTwo (r : SmallInputs) (k : ℕ) (v : Four) : Type 0 where
  pub even : even_block (handed16 v.0) (handed16 v.1) (handed16 v.2) (handed16 v.3) ≡ coefficients_in r k
  pub odd : odd_block (handed16 v.0) (handed16 v.1) (handed16 v.2) (handed16 v.3) ≡ coefficients_in r (k + 1)
  pub even_small : EachWithin 2200 (even_block (handed16 v.0) (handed16 v.1) (handed16 v.2) (handed16 v.3))
  pub odd_small : EachWithin 2200 (odd_block (handed16 v.0) (handed16 v.1) (handed16 v.2) (handed16 v.3))

pub are_two : (r : SmallInputs) (k : ℕ) (v : Four) (left right : List ℤ) → HasBlocks r (k + 2) → left ≡ (block_of r.tokens.now (r.first + k)).levels → right ≡ (block_of r.tokens.now (r.first + (k + 1))).levels
    → HasBlock v 0 (coefficients_after (coded16 (get_or r.dcs.now k (pos 0))) left r.ac) → HasBlock v 1 (coefficients_after (coded16 (get_or r.dcs.now (k + 1) (pos 0))) right r.ac)
    → (((i : ℕ) → i < 2 → unsigned_abs (get_or (coded16 (get_or r.dcs.now k (pos 0)) ∷ coded16 (get_or r.dcs.now (k + 1) (pos 0)) ∷ []) i (pos 0)) ≤ 2200)
    → (s j : ℕ) → s < 4 → j < 8 → unsigned_abs (row_lane v.0 v.1 v.2 v.3 s j) ≤ 2200) → AreTwo r k v
are_two r k v left right has is_left is_right has_left has_right small =
    let first : (n : ℕ) → n < length r.dcs.now → coded16 (get_or r.dcs.now n (pos 0)) ≡ get_or r.dcs.now n (pos 0) =
    λ n below. short_coded (get_or r.dcs.now n (pos 0)) (let s = r.small n below in omega arith) in
    let same : (n : ℕ) (levels : List ℤ) → n < length r.dcs.now → levels ≡ (block_of r.tokens.now (r.first + n)).levels
    → coefficients_after (coded16 (get_or r.dcs.now n (pos 0))) levels r.ac ≡ coefficients_in r n =
    λ n levels below is. ap (λ (z : ℤ). coefficients_after z levels r.ac) (first n below) ∙ ap (λ (zs : List ℤ). coefficients_after (get_or r.dcs.now n (pos 0)) zs r.ac) is in
    let has_k = has.0 in
    let small_first : (n : ℕ) → n < length r.dcs.now → unsigned_abs (coded16 (get_or r.dcs.now n (pos 0))) ≤ 2200 = λ n below. subst (λ (z : ℤ). unsigned_abs z ≤ 2200) (sym (first n below)) (r.small n below) in
    let all = small (below_two (λ i. unsigned_abs (get_or (coded16 (get_or r.dcs.now k (pos 0)) ∷ coded16 (get_or r.dcs.now (k + 1) (pos 0)) ∷ []) i (pos 0)) ≤ 2200) (small_first k (omega arith)) (small_first (k + 1) (omega arith))) in
    let long = λ (n : ℕ). coefficients_long (get_or r.dcs.now n (pos 0)) (block_of r.tokens.now (r.first + n)).levels r.ac in
    let l : HasBlock v 0 (coefficients_in r k) = subst (HasBlock v 0) (same k left (omega arith) is_left) has_left in
    let o : HasBlock v 1 (coefficients_in r (k + 1)) = subst (HasBlock v 1) (same (k + 1) right (omega arith) is_right) has_right in
    let passed : Four = (handed16 v.0, handed16 v.1, handed16 v.2, handed16 v.3) in
    let even = even_is passed (coefficients_in r k) (long k) (passed_block v all 0 (omega arith) (coefficients_in r k) (long k) l) in
    let odd = odd_is passed (coefficients_in r (k + 1)) (long (k + 1)) (passed_block v all 1 (omega arith) (coefficients_in r (k + 1)) (long (k + 1)) o) in
    record {
      even = even;
      odd = odd;
      even_small = subst (EachWithin 2200) (sym even) (block_small v all 0 (omega arith) (coefficients_in r k) (long k) l);
      odd_small = subst (EachWithin 2200) (sym odd) (block_small v all 1 (omega arith) (coefficients_in r (k + 1)) (long (k + 1)) o);
    }

-- the DC coefficients of luma from the Y2 block, whose own is made from the level that the code has
module _ (t : Tokens) (f g : Factors) (b : Block) (first : ℤ) (same : g ≡ f) (here : b ≡ block_of t 0) (is : IsBlock b) (made : first ≡ get_or b.levels 0 (pos 0) *ℤ pos g.y2_dc) where
  pub y2_values : luma_dcs t f ≡ iwht (coefficients_after first b.levels g.y2_ac)
  unfolding luma_dcs
  y2_values =
      ap iwht (ap (λ (a : Block). dequantised a.levels f.y2_dc f.y2_ac) (sym here) ∙ ap (λ (h : Factors). dequantised b.levels h.y2_dc h.y2_ac) (sym same)
      ∙ sym (from_level b.levels g.y2_dc g.y2_ac first made))

  -- the first alone
  pub y2_even : (z : ℤ) → b.end ≤ 1 → iwht (first ∷ replicate 15 (pos 0)) ≡ replicate 16 z → luma_dcs t f ≡ replicate 16 z
  y2_even z few even = y2_values ∙ ap iwht (sym (first_alone b is first g.y2_ac few)) ∙ even

pub nothing_of : (zs : List ℤ) → zs ≡ replicate 16 (pos 0) → IsNothing zs
nothing_of zs is i below = ap (λ (ys : List ℤ). get_or ys i (pos 0)) is ∙ get_or-replicate 16 i (pos 0) (pos 0) below

-- ---- the planes of a macroblock
module _ (t : Tokens) (f : Factors) where
  luma_values : (y2 : Bool) (dcs : List ℤ) → AreDcs 16 dcs (luma_dc y2 t f) → HasResidues 16 (residue_by t 1 dcs f.y_ac) (luma_residue y2 t f)
  unfolding luma_residue luma_coefficients dequantised
  luma_values true dcs are k below = ap (λ (z : ℤ). idct (coefficients_after z (block_of t (1 + k)).levels f.y_ac)) (are k below)
  luma_values false dcs are k below = ap idct (from_level (block_of t (1 + k)).levels f.y_dc f.y_ac (get_or dcs k (pos 0)) (are k below))

  chroma_values : (plane : ℕ) (dcs : List ℤ) → AreDcs 4 dcs (own_dc t (13 + 4 * plane) f.uv_dc)
      → HasResidues 4 (residue_by t (13 + 4 * plane) dcs f.uv_ac) (chroma_residue t f plane)
  unfolding chroma_residue
  chroma_values plane dcs are k below = ap idct (from_level (block_of t (13 + 4 * plane + k)).levels f.uv_dc f.uv_ac (get_or dcs k (pos 0)) (are k below))

  -- without tokens there is no residue
  pub luma_nothing : (y2 : Bool) (k : ℕ) → k < 16 → HasUpTo 0 (block_of t (1 + k)) → (y2 ≡ true → HasUpTo 0 (block_of t 0)) → IsNothing (luma_residue y2 t f k)
  unfolding luma_residue luma_coefficients luma_dcs
  luma_nothing false k below none no_y2 = nothing_of _ (no_residue (block_of t (1 + k)) none.0 f.y_dc f.y_ac (omega (arith, none.1)))
  luma_nothing true k below none no_y2 =
      let y2 = no_y2 refl in
      let levels : List ℤ = (block_of t (1 + k)).levels in
      nothing_of _
      (ap (λ (zs : List ℤ). idct (set (dequantised levels f.y_dc f.y_ac) 0 (get_or zs k (pos 0)))) (no_dcs (block_of t 0) y2.0 f.y2_dc f.y2_ac (omega (arith, y2.1)))
      ∙ ap (λ (z : ℤ). idct (set (dequantised levels f.y_dc f.y_ac) 0 z)) (get_or-replicate 16 k (pos 0) (pos 0) below)
      ∙ ap (λ (zs : List ℤ). idct (set zs 0 (pos 0))) (no_coefficients (block_of t (1 + k)) none.0 f.y_dc f.y_ac (omega (arith, none.1)))
      ∙ idct-first_alone (pos 0))

  pub chroma_nothing : (plane k : ℕ) → HasUpTo 0 (block_of t (13 + 4 * plane + k)) → IsNothing (chroma_residue t f plane k)
  unfolding chroma_residue
  chroma_nothing plane k none = nothing_of _ (no_residue (block_of t (13 + 4 * plane + k)) none.0 f.uv_dc f.uv_ac (omega (arith, none.1)))

-- sums with the residues that are computed from DC coefficients
sums_alike : (across : ℕ) (p : Raster) (x y : ℕ) (own residue : ℕ → List ℤ) → HasResidues (across * across) own residue → with_sums across p x y own ≡ with_sums across p x y residue
sums_alike across p x y own residue are =
    with_block_same p x y (4 * across) (4 * across) (block_sum across p x y own) (block_sum across p x y residue)
    (λ r c rin cin. ap (λ (zs : List ℤ). summed (was p x y r c) (get_or zs (4 * (r % 4) + c % 4) (pos 0))) (are (across * (r / 4) + c / 4) (sub_below across r c rin cin)))

module _ (t : Tokens) (f g : Factors) (same : g ≡ f) (p : Raster) (x y : ℕ) where
  pub luma_sums : (y2 : Bool) (dcs : List ℤ) → AreDcs 16 dcs (luma_dc y2 t g) → with_sums 4 p x y (residue_by t 1 dcs g.y_ac) ≡ with_sums 4 p x y (luma_residue y2 t f)
  luma_sums y2 dcs are =
      sums_alike 4 p x y (residue_by t 1 dcs g.y_ac) (luma_residue y2 t g) (luma_values t g y2 dcs are) ∙ ap (λ (h : Factors). with_sums 4 p x y (luma_residue y2 t h)) same

  pub chroma_sums : (plane : ℕ) (dcs : List ℤ) → AreDcs 4 dcs (own_dc t (13 + 4 * plane) g.uv_dc)
      → with_sums 2 p x y (residue_by t (13 + 4 * plane) dcs g.uv_ac) ≡ with_sums 2 p x y (chroma_residue t f plane)
  chroma_sums plane dcs are =
      sums_alike 2 p x y (residue_by t (13 + 4 * plane) dcs g.uv_ac) (chroma_residue t g plane) (chroma_values t g plane dcs are) ∙ ap (λ (h : Factors). with_sums 2 p x y (chroma_residue t h plane)) same

-- the DC coefficients of U, and then those of V
module _ (t : Tokens) (dc : ℕ) (dcs : List ℤ) (are : AreDcs 8 dcs (own_dc t 17 dc)) where
  pub u_dcs : AreDcs 4 (take 4 dcs) (own_dc t 17 dc)
  u_dcs k below = get_or-take 4 dcs k (pos 0) below ∙ are k (omega arith)

  pub v_dcs : AreDcs 4 (take 4 (drop 4 dcs)) (own_dc t 21 dc)
  v_dcs k below =
      get_or-take 4 (drop 4 dcs) k (pos 0) below ∙ get_or-drop 4 dcs k (pos 0) ∙ are (4 + k) (omega arith)
      ∙ ap (λ (n : ℕ). get_or (block_of t n).levels 0 (pos 0) *ℤ pos dc) (let e : 17 + (4 + k) ≡ 21 + k = omega arith in e)

-- a plane without tokens
pub chroma_none : (t : Tokens) (g : Factors) (plane : ℕ) (dcs : List ℤ) → AreDcs 4 dcs (own_dc t (13 + 4 * plane) g.uv_dc) → (k : ℕ) → k < 4 → HasUpTo 0 (block_of t (13 + 4 * plane + k))
    → IsNothing (residue_by t (13 + 4 * plane) dcs g.uv_ac k)
chroma_none t g plane dcs are k below none = subst IsNothing (sym (chroma_values t g plane dcs are k below)) (chroma_nothing t g plane k none)

-- four DC coefficients are small
pub four_small : (dcs : List ℤ) → ((k : ℕ) → k < 4 → unsigned_abs (get_or dcs k (pos 0)) ≤ 2200) → (k : ℕ) → k < length (take 4 dcs) → unsigned_abs (get_or (take 4 dcs) k (pos 0)) ≤ 2200
four_small dcs small k below =
    let few : k < 4 = omega (arith, length-take 4 dcs) in
    subst (λ (z : ℤ). unsigned_abs z ≤ 2200) (sym (get_or-take 4 dcs k (pos 0) few)) (small k few)

-- two subblocks of which no coefficient is other than 0
pub two_nothing : (r : SmallInputs) (k n : ℕ) → ((i : ℕ) → i < 2 → HasUpTo n (block_of r.tokens.now (r.first + k + i))) → n ≤ 1 → get_or r.dcs.now k (pos 0) ≡ pos 0 → get_or r.dcs.now (k + 1) (pos 0) ≡ pos 0
    → (i : ℕ) → 4 * i < 8 → IsNothing (residue_in r (k + i))
two_nothing r k n has few first second i below =
    let own = has i (omega arith) in
    let one : HasUpTo 1 (block_of r.tokens.now (r.first + (k + i))) =
    subst (λ (j : ℕ). HasUpTo 1 (block_of r.tokens.now j)) (let e : r.first + k + i ≡ r.first + (k + i) = omega arith in e) (own.0, omega (arith, own.1)) in
    nothing_of _ (even_residue (block_of r.tokens.now (r.first + (k + i))) one (get_or r.dcs.now (k + i) (pos 0)) r.ac ∙ ap (λ (z : ℤ). replicate 16 (rounded z)) (below_two (λ j. get_or r.dcs.now (k + j) (pos 0) ≡ pos 0) (ap (λ (m : ℕ). get_or r.dcs.now m (pos 0)) (let e : k + 0 ≡ k = omega arith in e) ∙ first) second i (omega arith)))

-- ---- a macroblock without tokens
block_none : (t : Tokens) → t.blocks ≡ no_blocks → (n : ℕ) → n < 25 → HasUpTo 0 (block_of t n)
block_none t none n below =
    subst (HasUpTo 0) (sym (ap (λ (bs : List Block). get_or bs n no_tokens) none ∙ get_or-replicate 25 n no_tokens no_tokens below)) (no_tokens-good, omega arith)

-- a pixel with no residue is its prediction
pub without_residue : (across : ℕ) (own : ℕ → List ℤ) (pixel r c : ℕ) → ((k : ℕ) → k < across * across → IsNothing (own k)) → across * (r / 4) + c / 4 < across * across → pixel ≤ 255
    → pixel ≡ summed pixel (residue_at across own r c)
without_residue across own pixel r c nothing below byte =
    sym (ap (summed pixel) (nothing (across * (r / 4) + c / 4) below (4 * (r % 4) + c % 4) (omega arith)) ∙ summed-zero pixel byte)

-- a block with no residue stays
pub block_alone : (p : Raster) (x y across : ℕ) (residue : ℕ → List ℤ) → IsWhole p → ((i : ℕ) → get_or p.pixels i 0 ≤ 255) → ((k : ℕ) → k < across * across → IsNothing (residue k))
    → p ≡ with_block p x y (4 * across) (4 * across) (block_sum across p x y residue)
block_alone p x y across residue whole byte nothing =
    with_block_of p x y (4 * across) (4 * across) whole
    ∙ with_block_same p x y (4 * across) (4 * across) (was p x y) (block_sum across p x y residue)
    (λ r c rin cin. without_residue across residue (was p x y r c) r c nothing (sub_below across r c rin cin) (byte ((y + r) * p.width + (x + c))))

-- the luma, and a chroma plane, of a macroblock that has no residue
module _ (t : Tokens) (none : t.blocks ≡ no_blocks) (f : Factors) (predictor : Predictor) (place : Place) (p : Raster) where
  pub luma_alone : predicts_by_subblocks predictor ≡ false → AreBlockBytes 16 (luma_prediction predictor place p) → luma_predicted predictor place p ≡ luma_rebuilt (macroblock_of predictor t f) place p
  luma_alone whole bytes =
      let m : Macroblock = macroblock_of predictor t f in
      let own = luma_prediction predictor place p in
      with_block_same p (16 * place.column) (16 * place.row) 16 16 own (luma_made m place p)
      (λ r j rin jin. without_residue 4 (luma_residue (has_y2 predictor) t f) (own r j) r j (λ k below. luma_nothing t f (has_y2 predictor) k below (block_none t none (1 + k) (omega arith)) (λ _. block_none t none 0 (omega arith))) (omega arith) (bytes r j rin jin))
      ∙ luma_at_once m place p whole

  pub chroma_alone : (k : ℕ) → k < 3 → AreBlockBytes 8 (chroma_prediction predictor k place p) → chroma_predicted predictor k place p ≡ chroma_rebuilt (macroblock_of predictor t f) k place p
  chroma_alone k chroma bytes =
      let own = chroma_prediction predictor k place p in
      with_block_same p (8 * place.column) (8 * place.row) 8 8 own (chroma_made (macroblock_of predictor t f) k place p)
      (λ r j rin jin. without_residue 2 (chroma_residue t f k) (own r j) r j (λ i below. chroma_nothing t f k i (block_none t none (13 + 4 * k + i) (omega arith))) (omega arith) (bytes r j rin jin))

-- a picture whose macroblock is predicted, luma first
pub nothing_rebuilt : (t : Tokens) → t.blocks ≡ no_blocks → (f : Factors) (predictor : Predictor) (place : Place) (p half next : Image) → IsAligned p → place.column < macroblocks p.width → place.row < macroblocks p.height
    → predicts_by_subblocks predictor ≡ false → half ≡ with_plane p 0 (luma_predicted predictor place p.luma) → next ≡ with_chroma half (λ k. chroma_predicted predictor k place)
    → ((i : ℕ) → get_or half.luma.pixels i 0 ≤ 255) → ((i : ℕ) → get_or next.u.pixels i 0 ≤ 255) → ((i : ℕ) → get_or next.v.pixels i 0 ≤ 255)
    → next ≡ rebuilt (macroblock_of predictor t f) place p
nothing_rebuilt t none f predictor place p half next aligned xin yin whole is_half is_next luma_bytes u_bytes v_bytes =
    let x : ℕ = 8 * place.column in
    let y : ℕ = 8 * place.row in
    let is : next ≡ record p { luma = luma_predicted predictor place p.luma; u = chroma_predicted predictor 1 place p.u; v = chroma_predicted predictor 2 place p.v } =
    is_next ∙ ap (λ (i : Image). with_chroma i (λ k. chroma_predicted predictor k place)) is_half in
    let luma = luma_alone t none f predictor place p.luma whole
    (predicted_bytes p half 0 (16 * place.column) (16 * place.row) 16 (luma_prediction predictor place p.luma) (omega (arith, aligned)) (omega (arith, aligned)) is_half luma_bytes) in
    let u = chroma_alone t none f predictor place p.u 1 (omega arith)
    (predicted_bytes (record p { luma = luma_predicted predictor place p.luma; v = chroma_predicted predictor 2 place p.v }) next 1 x y 8 (chroma_prediction predictor 1 place p.u) (omega (arith, aligned)) (omega (arith, aligned)) is u_bytes) in
    let v = chroma_alone t none f predictor place p.v 2 (omega arith)
    (predicted_bytes (record p { luma = luma_predicted predictor place p.luma; u = chroma_predicted predictor 1 place p.u }) next 2 x y 8 (chroma_prediction predictor 2 place p.v) (omega (arith, aligned)) (omega (arith, aligned)) is v_bytes) in
    is ∙ cc
