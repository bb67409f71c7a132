-- What rebuilding a macroblock changes, and what it depends on, by rows of pixels.
use Rattle.std.proofs.Common.{◌≡◌, ◌∙◌, ℕ, zero, suc, ◌+◌, ◌-◌, ◌*◌, ◌/◌, ◌%◌, ◌<◌, ◌≤◌, refl, sym, ap, arith, inl, inr}
use Rattle.vp_recon.proofs.Words.{Place, Raster, pixel, with_block, Image, IsAligned, macroblocks, IsSameFrom, AreSameAbove, AreSameFrom, AreOneSize, over-holds, MacroblockMotion, Tokens, Factors, Macroblock, Inter, predicts_by_subblocks, macroblock_of, luma_made, chroma_made, sub_step, luma_rebuilt, chroma_rebuilt, rebuilt, cases_Bool}
use Rattle.vp_base.specs.Over.{over}
use Rattle.vp_recon.proofs.Parts.{in_or_out, pixel_inside, pixel_outside}
use Rattle.vp_recon.proofs.LumaLemmas.{luma_at_once, luma_by_subs, wide_subs, high_subs}
use Rattle.vp_recon.proofs.Alike.{luma_made_alike, chroma_made_alike}

-- ---- rows above

luma_above : (m : Macroblock) (place : Place) (p : Raster) (u v : ℕ) → u < p.width → v < p.height → v < 16 * place.row → pixel (luma_rebuilt m place p) u v ≡ pixel p u v
luma_above m place p u v uin vin above = elim (cases_Bool (predicts_by_subblocks m.predictor)) [
  | inl subs ↦
      ap (λ (s : Raster). pixel s u v) (sym (luma_by_subs m place p subs))
      ∙ (over-holds (λ q. (p.width ≡ q.width) × (p.height ≡ q.height) × (pixel q u v ≡ pixel p u v)) 16 (sub_step m place) p
      (λ k below q so_far. (
        so_far.0,
        so_far.1,
        pixel_outside q (16 * place.column + 4 * (k % 4)) (16 * place.row + 4 * (k / 4)) 4 4
            (λ r c. luma_made m place q (4 * (k / 4) + r) (4 * (k % 4) + c)) u v (omega (arith, so_far.0)) (omega (arith, so_far.1)) (λ l. absurd (omega arith)) ∙ so_far.2,
      ))
      (refl, refl, refl)).2
  | inr whole ↦
      ap (λ (s : Raster). pixel s u v) (sym (luma_at_once m place p whole))
      ∙ pixel_outside p (16 * place.column) (16 * place.row) 16 16 (luma_made m place p) u v uin vin (λ l. absurd (omega arith))
]

pub keeps_above : (m : Macroblock) (place : Place) (p : Image) → AreSameAbove (16 * place.row) (8 * place.row) (rebuilt m place p) p
keeps_above m place p = record {
  luma = luma_above m place p.luma;
  u = λ u v uin vin above. pixel_outside p.u (8 * place.column) (8 * place.row) 8 8 (chroma_made m 1 place p.u) u v uin vin (λ l. absurd (omega arith));
  v = λ u v uin vin above. pixel_outside p.v (8 * place.column) (8 * place.row) 8 8 (chroma_made m 2 place p.v) u v uin vin (λ l. absurd (omega arith));
}

-- ---- rows that are read

block_reads : (p q : Raster) (x y n : ℕ) (f g : ℕ → ℕ → ℕ) (a : ℕ) → p.width ≡ q.width → p.height ≡ q.height → IsSameFrom a p q
    → ((r c : ℕ) → r < n → c < n → f r c ≡ g r c) → IsSameFrom a (with_block p x y n n f) (with_block q x y n n g)
block_reads p q x y n f g a w h same alike u v uin vin low =
    in_or_out (λ b. b ≡ pixel (with_block q x y n n g) u v) p x y n n f u v uin vin
    (λ l. alike (v - y) (u - x) (omega arith) (omega arith) ∙ sym (pixel_inside q x y n n g u v (omega arith) (omega arith) l))
    (λ apart. same u v uin vin low ∙ sym (pixel_outside q x y n n g u v (omega arith) (omega arith) apart))

-- the planes p and q have the same pixels from row a on, and so have what luma and chroma make of them
module _ (m : Macroblock) (place : Place) (p q : Raster) (a : ℕ) (w : p.width ≡ q.width) (h : p.height ≡ q.height) (same : IsSameFrom a p q) where
  chroma_reads : (k : ℕ) → ((r c : ℕ) → r < 8 → c < 8 → chroma_made m k place p r c ≡ chroma_made m k place q r c)
      → IsSameFrom a (chroma_rebuilt m k place p) (chroma_rebuilt m k place q)
  chroma_reads k alike = block_reads p q (8 * place.column) (8 * place.row) 8 (chroma_made m k place p) (chroma_made m k place q) a w h same alike

  module _ (alike : (b c : Raster) → b.width ≡ p.width → b.height ≡ p.height → c.width ≡ p.width → IsSameFrom a b c
      → (r j : ℕ) → r < 16 → j < 16 → luma_made m place b r j ≡ luma_made m place c r j) where
    subs_read : (n : ℕ) → n ≤ 16 → IsSameFrom a (over n (sub_step m place) p) (over n (sub_step m place) q)
    unfolding over
    subs_read zero few = same
    subs_read (suc n) few =
        let b : Raster = over n (sub_step m place) p in
        let c : Raster = over n (sub_step m place) q in
        let bw : b.width ≡ p.width = wide_subs m place p n in
        let bh : b.height ≡ p.height = high_subs m place p n in
        let cw : c.width ≡ p.width = wide_subs m place q n ∙ sym w in
        let ch : c.height ≡ p.height = high_subs m place q n ∙ sym h in
        let so_far : IsSameFrom a b c = subs_read n (omega arith) in
        block_reads b c (16 * place.column + 4 * (n % 4)) (16 * place.row + 4 * (n / 4)) 4
        (λ r j. luma_made m place b (4 * (n / 4) + r) (4 * (n % 4) + j)) (λ r j. luma_made m place c (4 * (n / 4) + r) (4 * (n % 4) + j))
        a (bw ∙ sym cw) (bh ∙ sym ch) so_far
        (λ r j rin jin. alike b c bw bh cw so_far (4 * (n / 4) + r) (4 * (n % 4) + j) (omega arith) (omega arith))

    luma_reads : IsSameFrom a (luma_rebuilt m place p) (luma_rebuilt m place q)
    luma_reads u v uin vin low = elim (cases_Bool (predicts_by_subblocks m.predictor)) [
      | inl subs ↦
          let sw = wide_subs m place p 16 in
          let sh = high_subs m place p 16 in
          ap (λ (s : Raster). pixel s u v) (sym (luma_by_subs m place p subs))
          ∙ subs_read 16 (omega arith) u v (omega arith) (omega arith) low
          ∙ ap (λ (s : Raster). pixel s u v) (luma_by_subs m place q subs)
      | inr whole ↦
          ap (λ (s : Raster). pixel s u v) (sym (luma_at_once m place p whole))
          ∙ block_reads p q (16 * place.column) (16 * place.row) 16 (luma_made m place p) (luma_made m place q) a w h same (alike p q refl refl (sym w) same) u v uin vin low
          ∙ ap (λ (s : Raster). pixel s u v) (luma_at_once m place q whole)
    ]

-- two aligned pictures of one size
module _ (m : Macroblock) (place : Place) (p q : Image) (a b : ℕ) (pa : IsAligned p) (qa : IsAligned q) (size : AreOneSize p q) (same : AreSameFrom a b p q) where
  cw : macroblocks p.width ≡ macroblocks q.width
  cw = ap (λ (n : ℕ). macroblocks n) size.width

  ch : macroblocks p.height ≡ macroblocks q.height
  ch = ap (λ (n : ℕ). macroblocks n) size.height

  both_read : ((c d : Raster) → c.width ≡ p.luma.width → c.height ≡ p.luma.height → d.width ≡ p.luma.width → IsSameFrom a c d
      → (r j : ℕ) → r < 16 → j < 16 → luma_made m place c r j ≡ luma_made m place d r j)
      → ((k : ℕ) (c d : Raster) → c.width ≡ p.u.width → c.height ≡ p.u.height → IsSameFrom b c d → (r j : ℕ) → r < 8 → j < 8 → chroma_made m k place c r j ≡ chroma_made m k place d r j)
      → AreSameFrom a b (rebuilt m place p) (rebuilt m place q)
  both_read luma chroma = record {
    luma = luma_reads m place p.luma q.luma a (omega (arith, pa, qa, cw)) (omega (arith, pa, qa, ch)) same.luma luma;
    u = chroma_reads m place p.u q.u b (omega (arith, pa, qa, cw)) (omega (arith, pa, qa, ch)) same.u 1 (chroma 1 p.u q.u refl refl same.u);
    v = chroma_reads m place p.v q.v b (omega (arith, pa, qa, cw)) (omega (arith, pa, qa, ch)) same.v 2 (chroma 2 p.v q.v (omega (arith, pa)) (omega (arith, pa)) same.v);
  }

  -- the last row above the macroblock is one of them
  pub any_read : place.column < macroblocks p.width → place.row < macroblocks p.height → a ≤ 16 * place.row - 1 → b ≤ 8 * place.row - 1
      → AreSameFrom a b (rebuilt m place p) (rebuilt m place q)
  any_read xin yin anear bnear = both_read
      (λ c d wide high over from r j. luma_made_alike place c d m r j (omega (arith, pa)) (omega (arith, pa)) (wide ∙ sym over)
      (λ u v uin vin ready. from u v uin vin (let low = ready.from in omega arith)))
      (λ k c d wide high from r j. chroma_made_alike place c d m k r j (omega (arith, pa)) (omega (arith, pa))
      (λ u v uin vin low below right left. from u v uin vin (omega arith)))

-- a moved macroblock depends on nothing of the picture that it is written to
pub inter_reads : (motion : MacroblockMotion) (reference : Image) (version : ℕ) (t : Tokens) (f : Factors) (place : Place) (p q : Image) (a b : ℕ) → IsAligned p → IsAligned q → AreOneSize p q
    → AreSameFrom a b p q → AreSameFrom a b (rebuilt (macroblock_of (Inter motion reference version) t f) place p) (rebuilt (macroblock_of (Inter motion reference version) t f) place q)
inter_reads motion reference version t f place p q a b pa qa size same =
    both_read (macroblock_of (Inter motion reference version) t f) place p q a b pa qa size same (λ c d _ _ _ _ r j _ _. refl) (λ k c d _ _ _ r j _ _. refl)
