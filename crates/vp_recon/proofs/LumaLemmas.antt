-- Luma of a macroblock by either way of prediction.
use Rattle.std.proofs.Common.{◌≡◌, ◌∙◌, ℕ, ◌+◌, ◌*◌, ◌/◌, ◌%◌, ℤ, pos, Bool, true, false, cond, List, get_or, refl, sym, ap, arith}
use Rattle.vp_recon.proofs.Words.{Place, Raster, with_block, block_place, over, raster, with_block_same, over-kept, over-same, SubMode, Modes, Tokens, block_of, Factors, luma_pixel, sub_pixel, Macroblock, Intra, predicts_by_subblocks, macroblock_of, residue, luma_prediction, summed, residue_at, luma_made, sub_step, luma_rebuilt, with_sub, not}
use Rattle.vp_tables.specs.declared.modes.SubMode.TheVariants as sub_is
use Rattle.vp_tables.specs.Modes.{is_by_subblocks}
use Rattle.vp_recon.specs.Residue.{luma_residue, luma_coefficients}
use Rattle.vp_recon.specs.Rebuilt.{luma_numbers}

module _ (m : Macroblock) (place : Place) (p : Raster) where
  abbrev by : Bool → Raster
  by b = raster p.width p.height (cond b (over 16 (sub_step m place) p) (with_block p (16 * place.column) (16 * place.row) 16 16 (luma_made m place p))).pixels

  pub luma_at_once : predicts_by_subblocks m.predictor ≡ false → with_block p (16 * place.column) (16 * place.row) 16 16 (luma_made m place p) ≡ luma_rebuilt m place p
  unfolding luma_numbers
  luma_at_once e = ap by (sym e)

  pub wide_subs : (k : ℕ) → (over k (sub_step m place) p).width ≡ p.width
  wide_subs k = over-kept (λ (r : Raster). r.width) k (sub_step m place) p (λ j b. refl)

  pub high_subs : (k : ℕ) → (over k (sub_step m place) p).height ≡ p.height
  high_subs k = over-kept (λ (r : Raster). r.height) k (sub_step m place) p (λ j b. refl)

  pub luma_by_subs : predicts_by_subblocks m.predictor ≡ true → over 16 (sub_step m place) p ≡ luma_rebuilt m place p
  unfolding luma_numbers
  luma_by_subs e =
      let s : Raster = over 16 (sub_step m place) p in
      ap (λ (w : ℕ). raster w s.height s.pixels) (wide_subs 16) ∙ ap (λ (h : ℕ). raster p.width h s.pixels) (high_subs 16) ∙ ap by (sym e)

module _ (m : Modes) (place : Place) (p : Raster) (r c : ℕ) where
  abbrev pub either : Bool → ℕ
  either b = cond b
      (sub_pixel (get_or m.subs (4 * (r / 4) + c / 4) sub_is.Dc) p (16 * place.column + 4 * (c / 4)) (16 * place.row + 4 * (r / 4)) (r % 4) (c % 4))
      (luma_pixel m.luma p (16 * place.column) (16 * place.row) r c)

  pub whole_prediction : is_by_subblocks m.luma ≡ false → luma_prediction (Intra m) place p r c ≡ luma_pixel m.luma p (16 * place.column) (16 * place.row) r c
  whole_prediction e = ap either e

  pub made_by : (t : Tokens) (f : Factors) (b : Bool) → is_by_subblocks m.luma ≡ b
      → luma_made (macroblock_of (Intra m) t f) place p r c ≡ summed (either b) (residue_at 4 (luma_residue (not b) t f) r c)
  made_by t f b e = ap (λ (d : Bool). summed (either d) (residue_at 4 (luma_residue (not d) t f) r c)) e

sub_at : (modes : List SubMode) (p : Raster) (residue : ℕ → List ℤ) (a b n r c x y n' r' c' : ℕ) → a ≡ x → b ≡ y → n ≡ n' → r ≡ r' → c ≡ c'
    → summed (sub_pixel (get_or modes n sub_is.Dc) p a b r c) (get_or (residue n) (4 * r + c) (pos 0))
    ≡ summed (sub_pixel (get_or modes n' sub_is.Dc) p x y r' c') (get_or (residue n') (4 * r' + c') (pos 0))
sub_at modes p residue a b n r c x y n' r' c' ea eb en er ec = cc

-- subblock k stands at a place among all the luma blocks, and has a residue by itself
sub_alone : (m : Modes) (t : Tokens) (f : Factors) (place : Place) (p : Raster) (k : ℕ) → is_by_subblocks m.luma ≡ true
    → with_sub p (block_place 4 place k) (get_or m.subs k sub_is.Dc) (residue (block_of t (1 + k)).levels f.y_dc f.y_ac)
    ≡ sub_step (macroblock_of (Intra m) t f) place k p
unfolding luma_residue luma_coefficients
sub_alone m t f place p k e =
    let g = λ (r : ℕ) (c : ℕ). luma_made (macroblock_of (Intra m) t f) place p (4 * (k / 4) + r) (4 * (k % 4) + c) in
    with_block_same p (4 * (place.column * 4 + k % 4)) (4 * (place.row * 4 + k / 4)) 4 4
    (λ r c. summed (sub_pixel (get_or m.subs k sub_is.Dc) p (4 * (place.column * 4 + k % 4)) (4 * (place.row * 4 + k / 4)) r c) (get_or (luma_residue false t f k) (4 * r + c) (pos 0))) g
    (λ r c rin cin.
    sub_at m.subs p (luma_residue false t f) (4 * (place.column * 4 + k % 4)) (4 * (place.row * 4 + k / 4)) k r c
    (16 * place.column + 4 * ((4 * (k % 4) + c) / 4)) (16 * place.row + 4 * ((4 * (k / 4) + r) / 4)) (4 * ((4 * (k / 4) + r) / 4) + (4 * (k % 4) + c) / 4) ((4 * (k / 4) + r) % 4) ((4 * (k % 4) + c) % 4)
    (omega arith) (omega arith) (omega arith) (omega arith) (omega arith)
    ∙ sym (made_by m place p (4 * (k / 4) + r) (4 * (k % 4) + c) t f true e))
    ∙ ap (λ (a : ℕ). with_block p a (4 * (place.row * 4 + k / 4)) 4 4 g) (let a : 4 * (place.column * 4 + k % 4) ≡ 16 * place.column + 4 * (k % 4) = omega arith in a)
    ∙ ap (λ (b : ℕ). with_block p (16 * place.column + 4 * (k % 4)) b 4 4 g) (let b : 4 * (place.row * 4 + k / 4) ≡ 16 * place.row + 4 * (k / 4) = omega arith in b)

-- the first k subblocks
abbrev pub first_subs : Modes → Tokens → Factors → Place → ℕ → Raster → Raster
first_subs m t f place k p =
    over k (λ j q. with_sub q (block_place 4 place j) (get_or m.subs j sub_is.Dc) (residue (block_of t (1 + j)).levels f.y_dc f.y_ac)) p

pub subs_alone : (m : Modes) (t : Tokens) (f : Factors) (place : Place) (p : Raster) → is_by_subblocks m.luma ≡ true
    → luma_rebuilt (macroblock_of (Intra m) t f) place p ≡ first_subs m t f place 16 p
subs_alone m t f place p e =
    sym (luma_by_subs (macroblock_of (Intra m) t f) place p e)
    ∙ over-same 16 (sub_step (macroblock_of (Intra m) t f) place) (λ k q. with_sub q (block_place 4 place k) (get_or m.subs k sub_is.Dc) (residue (block_of t (1 + k)).levels f.y_dc f.y_ac)) p
    (λ k below q. sym (sub_alone m t f place q k e))
