-- What a macroblock makes of two planes that have the same pixels round it.
use Rattle.std.proofs.Common.{◌≡◌, ◌∙◌, ℕ, Bool, true, false, cond, eqb, min, ◌⊎◌, inl, inr, ◌+◌, ◌-◌, ◌*◌, ◌/◌, ◌%◌, ◌<◌, ◌≤◌, List, get_or, sym, refl, ap, arith}
use Rattle.vp_recon.proofs.Words.{Place, Raster, pixel, LumaMode, ChromaMode, SubMode, first, rounded_mean, true_motion, around, predicted, Intra, Inter, Macroblock, predicts_by_subblocks, has_y2, luma_residue, chroma_residue, luma_prediction, chroma_prediction, summed, residue_at, luma_made, chroma_made, fill_by_all, length-map-range_with_len, get_or-map-range_with_len, cases_lt, eq-eqb, ne_eqb}
use Rattle.vp_tables.specs.declared.modes.LumaMode.TheVariants as luma_is
use Rattle.vp_tables.specs.declared.modes.ChromaMode.TheVariants as chroma_is
use Rattle.vp_tables.specs.declared.modes.SubMode.TheVariants as sub_is
use Rattle.vp_tables.specs.Modes.{is_by_subblocks}
use Rattle.vp_intra.specs.Edges.{above_pixel, left_pixel, corner_pixel, edge}
use Rattle.vp_intra.specs.Whole.{luma_pixel, chroma_pixel}
use Rattle.vp_intra.specs.Sub.{above_right_pixel, above_right_row, sub_pixel}
use Rattle.vp_recon.specs.Predictor.{Predictor}
use Rattle.vp_recon.proofs.Parts.{sub_at}
use Rattle.vp_recon.proofs.LumaLemmas.{either}

-- p and q have the same pixels in the row above a block of n by n, up to its last column, and to its left in its rows
abbrev pub RoundIt : Raster → Raster → ℕ → ℕ → ℕ → Type 0
RoundIt p q x y n =
    (u v : ℕ) → u < p.width → v < p.height → y ≤ v + 1 → v < y + n → u < x + n → (y ≤ v → u < x) → pixel p u v ≡ pixel q u v

-- a pixel that has a fixed value at the edge of the frame
at_edge : (y k a b : ℕ) → (0 < y → a ≡ b) → cond (eqb y 0) k a ≡ cond (eqb y 0) k b
at_edge y k a b same = elim (cases_lt 0 y) [
  | inl inside ↦ ap (λ (n : ℕ). cond (eqb y 0) k n) (same inside)
  | inr edge ↦
      let at : eqb y 0 ≡ true = eq-eqb y 0 (omega arith) in
      ap (λ (t : Bool). cond t k a) at ∙ sym (ap (λ (t : Bool). cond t k b) at)
]

module _ (p q : Raster) (x y n : ℕ) (xfits : x + n ≤ p.width) (yfits : y + n ≤ p.height) (some : 0 < n) (same : RoundIt p q x y n) where
  above_alike : (c : ℕ) → c < n → above_pixel p x y c ≡ above_pixel q x y c
  unfolding above_pixel
  above_alike c cin = at_edge y 127 (pixel p (x + c) (y - 1)) (pixel q (x + c) (y - 1))
      (λ low. same (x + c) (y - 1) (omega arith) (omega arith) (omega arith) (omega arith) (omega arith) (λ h. omega arith))

  left_alike : (r : ℕ) → r < n → left_pixel p x y r ≡ left_pixel q x y r
  unfolding left_pixel
  left_alike r rin = at_edge x 129 (pixel p (x - 1) (y + r)) (pixel q (x - 1) (y + r))
      (λ right. same (x - 1) (y + r) (omega arith) (omega arith) (omega arith) (omega arith) (omega arith) (λ h. omega arith))

  corner_alike : corner_pixel p x y ≡ corner_pixel q x y
  unfolding corner_pixel
  corner_alike =
      at_edge y 127 (cond (eqb x 0) 129 (pixel p (x - 1) (y - 1))) (cond (eqb x 0) 129 (pixel q (x - 1) (y - 1)))
      (λ low. at_edge x 129 (pixel p (x - 1) (y - 1)) (pixel q (x - 1) (y - 1))
      (λ right. same (x - 1) (y - 1) (omega arith) (omega arith) (omega arith) (omega arith) (omega arith) (λ h. omega arith)))

  dcs_alike : (f g : ℕ → ℕ) → ((k : ℕ) → k < n → f k ≡ g k) → first n f ≡ first n g
  dcs_alike f g alike = fill_by_all g (first n f) n 0 (length-map-range_with_len f 0 n)
      (λ k below. get_or-map-range_with_len f 0 n k k 0 below (omega arith) ∙ alike k below)

  edge_alike : edge p x y n ≡ edge q x y n
  unfolding edge
  edge_alike =
      let above : first n (above_pixel p x y) ≡ first n (above_pixel q x y) = dcs_alike (above_pixel p x y) (above_pixel q x y) above_alike in
      let left : first n (left_pixel p x y) ≡ first n (left_pixel q x y) = dcs_alike (left_pixel p x y) (left_pixel q x y) left_alike in
      cc

  motion_alike : (r c : ℕ) → r < n → c < n → true_motion p x y r c ≡ true_motion q x y r c
  motion_alike r c rin cin = cc (left_alike r rin, above_alike c cin, corner_alike)

pub luma_alike : (m : LumaMode) (p q : Raster) (x y r c : ℕ) → x + 16 ≤ p.width → y + 16 ≤ p.height → RoundIt p q x y 16 → r < 16 → c < 16
    → luma_pixel m p x y r c ≡ luma_pixel m q x y r c
unfolding luma_pixel
luma_alike luma_is.Dc p q x y r c xfits yfits same rin cin = ap rounded_mean (edge_alike p q x y 16 xfits yfits (omega arith) same)
luma_alike luma_is.V p q x y r c xfits yfits same rin cin = above_alike p q x y 16 xfits yfits (omega arith) same c cin
luma_alike luma_is.H p q x y r c xfits yfits same rin cin = left_alike p q x y 16 xfits yfits (omega arith) same r rin
luma_alike luma_is.Tm p q x y r c xfits yfits same rin cin = motion_alike p q x y 16 xfits yfits (omega arith) same r c rin cin
luma_alike luma_is.B p q x y r c xfits yfits same rin cin = refl

pub chroma_alike : (m : ChromaMode) (p q : Raster) (x y r c : ℕ) → x + 8 ≤ p.width → y + 8 ≤ p.height → RoundIt p q x y 8 → r < 8 → c < 8
    → chroma_pixel m p x y r c ≡ chroma_pixel m q x y r c
unfolding chroma_pixel
chroma_alike chroma_is.Dc p q x y r c xfits yfits same rin cin = ap rounded_mean (edge_alike p q x y 8 xfits yfits (omega arith) same)
chroma_alike chroma_is.V p q x y r c xfits yfits same rin cin = above_alike p q x y 8 xfits yfits (omega arith) same c cin
chroma_alike chroma_is.H p q x y r c xfits yfits same rin cin = left_alike p q x y 8 xfits yfits (omega arith) same r rin
chroma_alike chroma_is.Tm p q x y r c xfits yfits same rin cin = motion_alike p q x y 8 xfits yfits (omega arith) same r c rin cin

-- ---- subblocks

-- a place in the row above the macroblock in column mx of row my, to its left in its rows, or in its subblocks before k
pub record Ready (mx my k u v : ℕ) : Type 0 where
  pub from : 16 * my ≤ v + 1
  pub to : v < 16 * my + 16
  pub left : 16 * my ≤ v → u < 16 * mx + 16
  pub own : 16 * my ≤ v → 16 * mx ≤ u → 4 * ((v - 16 * my) / 4) + (u - 16 * mx) / 4 < k

-- p and q have the same pixels at these places
abbrev pub AreAlike : Raster → Raster → ℕ → ℕ → ℕ → Type 0
AreAlike p q mx my k = (u v : ℕ) → u < p.width → v < p.height → Ready mx my k u v → pixel p u v ≡ pixel q u v

-- the pixels above and to the right stand above the subblock, or above its macroblock
right_row : (mx my i j x y : ℕ) → i < 4 → j < 4 → x ≡ 16 * mx + 4 * i → y ≡ 16 * my + 4 * j
    → ((i < 3) × (above_right_row x y ≡ y)) ⊎ (above_right_row x y ≡ 16 * my)
unfolding above_right_row
right_row mx my i j x y iin jin x_is y_is = elim (cases_lt i 3) [
  | inl inner ↦ inl (inner, ap (λ (b : Bool). cond b (y - y % 16) y) (ne_eqb (x % 16) 12 (λ e. omega arith)))
  | inr last ↦ inr (ap (λ (b : Bool). cond b (y - y % 16) y) (eq-eqb (x % 16) 12 (omega arith)) ∙ (let e : y - y % 16 ≡ 16 * my = omega arith in e))
]

-- subblock 4 * j + i of the macroblock, at column x of row y
module _ (p q : Raster) (mx my i j x y : ℕ) (iin : i < 4) (jin : j < 4) (x_is : x ≡ 16 * mx + 4 * i) (y_is : y ≡ 16 * my + 4 * j)
    (wide : p.width ≡ q.width) (xfits : 16 * mx + 16 ≤ p.width) (yfits : 16 * my + 16 ≤ p.height) (same : AreAlike p q mx my (4 * j + i)) where
  round_sub : RoundIt p q x y 4
  round_sub u v uin vin low high right left =
      same u v uin vin (record { from = omega arith; to = omega arith; left = λ h. omega arith; own = λ h g. elim (cases_lt v y) [ inl above ↦ omega arith | inr beside ↦ let l = left beside in omega arith ] })

  right_alike : (t : ℕ) → t < 4 → above_right_pixel p x y t ≡ above_right_pixel q x y t
  unfolding above_right_pixel
  right_alike t tin =
      let u : ℕ = min (x + 4 + t) (p.width - 1) in
      let v : ℕ = above_right_row x y - 1 in
      let row = right_row mx my i j x y iin jin x_is y_is in
      at_edge (above_right_row x y) 127 (pixel p (min (x + 4 + t) (p.width - 1)) (above_right_row x y - 1)) (pixel q (min (x + 4 + t) (q.width - 1)) (above_right_row x y - 1))
      (λ low. same u v (omega arith) (omega (arith, row)) (record { from = omega (arith, row); to = omega (arith, row); left = λ h. omega (arith, row); own = λ h g. omega (arith, row) })
      ∙ ap (λ (w : ℕ). pixel q (min (x + 4 + t) (w - 1)) (above_right_row x y - 1)) wide)

  around_alike : around p x y ≡ around q x y
  around_alike =
      let left = left_alike p q x y 4 (omega arith) (omega arith) (omega arith) round_sub in
      let above = above_alike p q x y 4 (omega arith) (omega arith) (omega arith) round_sub in
      let i : (0 < 4) × (1 < 4) × (2 < 4) × (3 < 4) = (omega arith, omega arith, omega arith, omega arith) in
      let corner = corner_alike p q x y 4 (omega arith) (omega arith) (omega arith) round_sub in
      cc (left 0 i.0, left 1 i.1, left 2 i.2, left 3 i.3, corner, above 0 i.0, above 1 i.1, above 2 i.2, above 3 i.3, right_alike 0 i.0, right_alike 1 i.1, right_alike 2 i.2, right_alike 3 i.3)

  pub sub_alike : (m : SubMode) (r c : ℕ) → sub_pixel m p x y r c ≡ sub_pixel m q x y r c
  unfolding sub_pixel
  sub_alike m r c = ap (λ (es : List ℕ). get_or (predicted m es) (r * 4 + c) 0) around_alike

-- ---- a macroblock, whatever its predictor

-- the number of the macroblock's subblocks that are made before the pixel at row r and column c is predicted
abbrev pub stage : Predictor → ℕ → ℕ → ℕ
stage predictor r c = cond (predicts_by_subblocks predictor) (sub_at 4 r c) 0

module _ (place : Place) (p q : Raster) where
  luma_by : (s : Predictor) (r c : ℕ) → 16 * place.column + 16 ≤ p.width → 16 * place.row + 16 ≤ p.height → p.width ≡ q.width
      → AreAlike p q place.column place.row (stage s r c) → r < 16 → c < 16 → luma_prediction s place p r c ≡ luma_prediction s place q r c
  luma_by (Inter motion reference version) r c xfits yfits wide same rin cin = refl
  luma_by (Intra m) r c xfits yfits wide same rin cin = by (is_by_subblocks m.luma) same
    where
      by : (b : Bool) → AreAlike p q place.column place.row (cond b (sub_at 4 r c) 0) → either m place p r c b ≡ either m place q r c b
      by true known = sub_alike p q place.column place.row (c / 4) (r / 4) (16 * place.column + 4 * (c / 4)) (16 * place.row + 4 * (r / 4)) (omega arith) (omega arith) refl refl wide xfits yfits known
          (get_or m.subs (4 * (r / 4) + c / 4) sub_is.Dc) (r % 4) (c % 4)
      by false known = luma_alike m.luma p q (16 * place.column) (16 * place.row) r c xfits yfits
          (λ u v uin vin low high right left. known u v uin vin (record { from = omega arith; to = omega arith; left = λ h. omega arith; own = λ h g. omega arith })) rin cin

  chroma_by : (s : Predictor) (k r c : ℕ) → 8 * place.column + 8 ≤ p.width → 8 * place.row + 8 ≤ p.height → RoundIt p q (8 * place.column) (8 * place.row) 8
      → r < 8 → c < 8 → chroma_prediction s k place p r c ≡ chroma_prediction s k place q r c
  chroma_by (Intra m) k r c xfits yfits same rin cin = chroma_alike m.chroma p q (8 * place.column) (8 * place.row) r c xfits yfits same rin cin
  chroma_by (Inter motion reference version) k r c xfits yfits same rin cin = refl

  pub luma_made_alike : (m : Macroblock) (r c : ℕ) → 16 * place.column + 16 ≤ p.width → 16 * place.row + 16 ≤ p.height → p.width ≡ q.width
      → AreAlike p q place.column place.row (stage m.predictor r c) → r < 16 → c < 16 → luma_made m place p r c ≡ luma_made m place q r c
  luma_made_alike m r c xfits yfits wide same rin cin =
      ap (λ (n : ℕ). summed n (residue_at 4 (luma_residue (has_y2 m.predictor) m.tokens m.factors) r c)) (luma_by m.predictor r c xfits yfits wide same rin cin)

  pub chroma_made_alike : (m : Macroblock) (k r c : ℕ) → 8 * place.column + 8 ≤ p.width → 8 * place.row + 8 ≤ p.height → RoundIt p q (8 * place.column) (8 * place.row) 8
      → r < 8 → c < 8 → chroma_made m k place p r c ≡ chroma_made m k place q r c
  chroma_made_alike m k r c xfits yfits same rin cin =
      ap (λ (n : ℕ). summed n (residue_at 2 (chroma_residue m.tokens m.factors k) r c)) (chroma_by m.predictor k r c xfits yfits same rin cin)
