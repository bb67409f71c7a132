-- Planes of a picture that are predicted, and then changed by residues.
use Rattle.std.proofs.Common.{◌≡◌, ◌∙◌, ℕ, ap, ◌+◌, ◌-◌, ◌*◌, ◌<◌, ◌≤◌, ℤ, get_or, refl, sym, subst, arith, List}
use Rattle.vp_recon.proofs.Words.{Raster, pixel, Image, plane_of, with_plane, plane_of-with_plane, with_plane-with_plane, with_block, IsWhole-with_block, same_raster, with_block_same, summed, residue_at, luma_rebuilt, chroma_rebuilt, rebuilt, AreBlockBytes, block_sum, with_chroma, block, read_block, Place, MacroblockPixels, Macroblock, chroma_residue, chroma_prediction, chroma_predicted, IsGiven}
use Rattle.vp_recon.proofs.Parts.{in_or_out, pixel_inside, pixel_outside, block_pixel}

module _ (p now next : Image) (n : ℕ) (step : Raster → Raster) (written : next ≡ with_plane now n (step (plane_of now n))) where
  -- the plane was q, and now is q with a step more
  pub plane_next : (q : Raster) → now ≡ with_plane p n q → next ≡ with_plane p n (step q)
  plane_next q is =
      written
      ∙ ap (λ (i : Image). with_plane i n (step (plane_of i n))) is
      ∙ with_plane-with_plane p n q (step (plane_of (with_plane p n q) n))
      ∙ ap (λ (r : Raster). with_plane p n (step r)) (plane_of-with_plane p n q)

  -- what the step keeps of the plane
  pub plane_kept : (look : Raster → ℕ) → look (step (plane_of now n)) ≡ look (plane_of now n) → look (plane_of next n) ≡ look (plane_of now n)
  plane_kept look keeps = ap (λ (i : Image). look (plane_of i n)) written ∙ ap look (plane_of-with_plane now n (step (plane_of now n))) ∙ keeps

-- ---- a block that is written

-- it is written over
pub over_block : (p : Raster) (x y n : ℕ) (f g h : ℕ → ℕ → ℕ) → ((r c : ℕ) → r < n → c < n → g r c ≡ h r c)
    → with_block (with_block p x y n n f) x y n n g ≡ with_block p x y n n h
over_block p x y n f g h same =
    let q : Raster = with_block p x y n n f in
    same_raster (with_block q x y n n g) (with_block p x y n n h) refl refl (IsWhole-with_block q x y n n g) (IsWhole-with_block p x y n n h)
    (λ u v uin vin. in_or_out (λ a. a ≡ pixel (with_block p x y n n h) u v) q x y n n g u v uin vin
    (λ l. same (v - y) (u - x) (omega arith) (omega arith) ∙ sym (pixel_inside p x y n n h u v uin vin l))
    (λ apart. pixel_outside p x y n n f u v uin vin apart ∙ sym (pixel_outside p x y n n h u v uin vin apart)))

-- residues are added to a block that is written
pub summed_block : (p : Raster) (x y n : ℕ) (f : ℕ → ℕ → ℕ) (residue : ℕ → ℕ → ℤ) → x + n ≤ p.width → y + n ≤ p.height → let q : Raster = with_block p x y n n f in
    with_block q x y n n (λ r c. summed (pixel q (x + c) (y + r)) (residue r c)) ≡ with_block p x y n n (λ r c. summed (f r c) (residue r c))
summed_block p x y n f residue columns rows =
    let q : Raster = with_block p x y n n f in
    over_block p x y n f (λ r c. summed (pixel q (x + c) (y + r)) (residue r c)) (λ r c. summed (f r c) (residue r c))
    (λ r c rin cin. ap (λ (v : ℕ). summed v (residue r c)) (block_pixel p x y n n f r c columns rows rin cin))

-- both chroma planes are changed
pub both_chroma : (p first next : Image) (f : ℕ → Raster → Raster) → first ≡ with_plane p 1 (f 1 p.u) → next ≡ with_plane first 2 (f 2 first.v) → next ≡ with_chroma p f
both_chroma p first next f is_first is_next = is_next ∙ ap (λ (i : Image). with_plane i 2 (f 2 i.v)) is_first

-- residues are added to chroma that is predicted
pub chroma_summed : (p half next : Image) (x y : ℕ) (u v : ℕ → ℕ → ℕ) (residue : ℕ → ℕ → ℕ → ℤ) → x + 8 ≤ p.u.width → y + 8 ≤ p.u.height → x + 8 ≤ p.v.width → y + 8 ≤ p.v.height
    → half ≡ record p { u = with_block p.u x y 8 8 u; v = with_block p.v x y 8 8 v }
    → next ≡ with_chroma half (λ k q. with_block q x y 8 8 (λ r c. summed (pixel q (x + c) (y + r)) (residue k r c)))
    → next ≡ record p { u = with_block p.u x y 8 8 (λ r c. summed (u r c) (residue 1 r c)); v = with_block p.v x y 8 8 (λ r c. summed (v r c) (residue 2 r c)) }
chroma_summed p half next x y u v residue u_columns u_rows v_columns v_rows predicted is =
    let step : ℕ → Raster → Raster = λ k q. with_block q x y 8 8 (λ r c. summed (pixel q (x + c) (y + r)) (residue k r c)) in
    is ∙ ap (λ (i : Image). with_chroma i step) predicted
    ∙ ap (λ (q : Raster). record p { u = q; v = step 2 (with_block p.v x y 8 8 v) }) (summed_block p.u x y 8 u (residue 1) u_columns u_rows)
    ∙ ap (λ (q : Raster). record p { u = with_block p.u x y 8 8 (λ r c. summed (u r c) (residue 1 r c)); v = q }) (summed_block p.v x y 8 v (residue 2) v_columns v_rows)

module _ (p now : Image) (n x y size : ℕ) (f : ℕ → ℕ → ℕ) (columns : x + size ≤ (plane_of p n).width) (rows : y + size ≤ (plane_of p n).height)
    (predicted : now ≡ with_plane p n (with_block (plane_of p n) x y size size f)) where
  plane_is : plane_of now n ≡ with_block (plane_of p n) x y size size f
  plane_is = ap (λ (i : Image). plane_of i n) predicted ∙ plane_of-with_plane p n (with_block (plane_of p n) x y size size f)

  -- what was predicted are bytes
  pub predicted_bytes : ((i : ℕ) → get_or (plane_of now n).pixels i 0 ≤ 255) → AreBlockBytes size f
  predicted_bytes bytes r c rin cin =
      subst (λ (v : ℕ). v ≤ 255) (ap (λ (q : Raster). pixel q (x + c) (y + r)) plane_is ∙ block_pixel (plane_of p n) x y size size f r c columns rows rin cin)
      (bytes ((y + r) * (plane_of now n).width + (x + c)))

  -- residues are added to what was predicted
  pub summed_onto : (next : Image) (residue : ℕ → ℕ → ℤ)
      → next ≡ with_plane now n (with_block (plane_of now n) x y size size (λ r c. summed (pixel (plane_of now n) (x + c) (y + r)) (residue r c)))
      → next ≡ with_plane p n (with_block (plane_of p n) x y size size (λ r c. summed (f r c) (residue r c)))
  summed_onto next residue written =
      let q : Raster = with_block (plane_of p n) x y size size f in
      let step : Raster → Raster = λ s. with_block s x y size size (λ r c. summed (pixel s (x + c) (y + r)) (residue r c)) in
      plane_next p now next n step written q predicted ∙ ap (with_plane p n) (summed_block (plane_of p n) x y size f residue columns rows)

-- chroma is rebuilt, and then luma
pub chroma_half : (m : Macroblock) (place : Place) (p predicted half : Image) → let x : ℕ = 8 * place.column in let y : ℕ = 8 * place.row in
    x + 8 ≤ p.u.width → y + 8 ≤ p.u.height → x + 8 ≤ p.v.width → y + 8 ≤ p.v.height → predicted ≡ with_chroma p (λ k. chroma_predicted m.predictor k place)
    → half ≡ with_chroma predicted (λ k q. with_block q x y 8 8 (block_sum 2 q x y (chroma_residue m.tokens m.factors k)))
    → half ≡ record p { u = chroma_rebuilt m 1 place p.u; v = chroma_rebuilt m 2 place p.v }
chroma_half m place p predicted half = chroma_summed p predicted half (8 * place.column) (8 * place.row) (chroma_prediction m.predictor 1 place p.u) (chroma_prediction m.predictor 2 place p.v)
    (λ k. residue_at 2 (chroma_residue m.tokens m.factors k))

pub luma_after_half : (m : Macroblock) (place : Place) (p half next : Image) → half ≡ record p { u = chroma_rebuilt m 1 place p.u; v = chroma_rebuilt m 2 place p.v }
    → next ≡ with_plane half 0 (luma_rebuilt m place half.luma) → next ≡ rebuilt m place p
luma_after_half m place p half next is_half is_next = is_next ∙ ap (λ (i : Image). with_plane i 0 (luma_rebuilt m place i.luma)) is_half

-- the sums with a prediction that is listed
pub sums_listed : (p : Raster) (x y n : ℕ) (ps : List ℕ) (g : ℕ → ℕ → ℕ) (residue : ℕ → ℕ → ℤ) → ps ≡ block n g
    → with_block p x y n n (λ r c. summed (get_or ps (r * n + c) 0) (residue r c)) ≡ with_block p x y n n (λ r c. summed (g r c) (residue r c))
sums_listed p x y n ps g residue are =
    with_block_same p x y n n (λ r c. summed (get_or ps (r * n + c) 0) (residue r c)) (λ r c. summed (g r c) (residue r c))
    (λ r c rin cin. ap (λ (v : ℕ). summed v (residue r c)) (ap (λ (qs : List ℕ). get_or qs (r * n + c) 0) are ∙ read_block n g r c rin cin))

-- a chroma plane whose prediction is listed
abbrev pub given_chroma : Macroblock → Place → ℕ → List ℕ → Raster → Raster
given_chroma m place k ps q =
    with_block q (8 * place.column) (8 * place.row) 8 8 (λ r c. summed (get_or ps (r * 8 + c) 0) (residue_at 2 (chroma_residue m.tokens m.factors k) r c))

-- both chroma planes are written, and residues are added to them
pub given_half : (m : Macroblock) (place : Place) (p one two half : Image) (b : MacroblockPixels) → let x : ℕ = 8 * place.column in let y : ℕ = 8 * place.row in
    x + 8 ≤ p.u.width → y + 8 ≤ p.u.height → x + 8 ≤ p.v.width → y + 8 ≤ p.v.height
    → one ≡ with_plane p 1 (with_block p.u x y 8 8 (λ r c. get_or b.u (r * 8 + c) 0)) → two ≡ with_plane one 2 (with_block one.v x y 8 8 (λ r c. get_or b.v (r * 8 + c) 0))
    → half ≡ with_chroma two (λ k q. with_block q x y 8 8 (block_sum 2 q x y (chroma_residue m.tokens m.factors k)))
    → half ≡ record p { u = given_chroma m place 1 b.u p.u; v = given_chroma m place 2 b.v p.v }
given_half m place p one two half b u_columns u_rows v_columns v_rows is_one is_two is_half =
    let x : ℕ = 8 * place.column in
    let y : ℕ = 8 * place.row in
    chroma_summed p two half x y (λ r c. get_or b.u (r * 8 + c) 0) (λ r c. get_or b.v (r * 8 + c) 0) (λ k. residue_at 2 (chroma_residue m.tokens m.factors k)) u_columns u_rows v_columns v_rows
    (is_two ∙ ap (λ (i : Image). with_plane i 2 (with_block i.v x y 8 8 (λ r c. get_or b.v (r * 8 + c) 0))) is_one) is_half

-- both chroma planes, and then luma
pub given_rebuilt : (m : Macroblock) (place : Place) (p half next : Image) (b : MacroblockPixels) (luma : Raster → Raster) → IsGiven m place p b
    → half ≡ record p { u = given_chroma m place 1 b.u p.u; v = given_chroma m place 2 b.v p.v }
    → next ≡ with_plane half 0 (luma half.luma) → luma p.luma ≡ luma_rebuilt m place p.luma → next ≡ rebuilt m place p
given_rebuilt m place p half next b luma given is_half is_next is_luma =
    let listed = λ (k : ℕ) (q : Raster) (ps : List ℕ).
    sums_listed q (8 * place.column) (8 * place.row) 8 ps (chroma_prediction m.predictor k place q) (residue_at 2 (chroma_residue m.tokens m.factors k)) in
    is_next
    ∙ ap (λ (i : Image). with_plane i 0 (luma i.luma)) is_half
    ∙ ap (λ (q : Raster). record p { luma = q; u = given_chroma m place 1 b.u p.u; v = given_chroma m place 2 b.v p.v }) is_luma
    ∙ ap (λ (q : Raster). record p { luma = luma_rebuilt m place p.luma; u = q; v = given_chroma m place 2 b.v p.v }) (listed 1 p.u b.u given.u)
    ∙ ap (λ (q : Raster). record p { luma = luma_rebuilt m place p.luma; u = chroma_rebuilt m 1 place p.u; v = q }) (listed 2 p.v b.v given.v)
