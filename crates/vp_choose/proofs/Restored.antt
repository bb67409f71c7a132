-- A plane whose macroblock is written as it was is the plane that it was.
use Rattle.std.proofs.Common.{◌≡◌, ◌∙◌, ℕ, ◌+◌, ◌-◌, ◌*◌, ◌/◌, ◌%◌, ◌<◌, ◌≤◌, true, false, refl, sym, arith, inl, inr}
use Rattle.std.proofs.lemmas.Bool.{cases_Bool}
use Rattle.std.proofs.lemmas.Bool.Decides.{nat_tests}
use Rattle.vp_base.specs.declared.place.Place.{Place}
use Rattle.vp_base.specs.Raster.{Raster, pixel}
use Rattle.vp_base.specs.Block.{is_in_block, with_block, IsWhole}
use Rattle.vp_base.proofs.BlockLemmas.{pixel-with_block, IsWhole-with_block, same_raster}
use Rattle.vp_base.proofs.OverLemmas.{over-holds}
use Rattle.vp_quant.specs.declared.factors.Factors.{Factors}
use Rattle.vp_choose.specs.declared.subblocks.Subblocks.{Subblocks}
use Rattle.vp_choose.specs.Costs.{block_pixels}
use Rattle.vp_choose.specs.Subblocks.{sub_rebuilt, after_subblocks}

-- q is p but for a macroblock
pub record IsSameOutside (p : Raster) (x y : ℕ) (q : Raster) : Type 0 where
  pub width : q.width ≡ p.width
  pub height : q.height ≡ p.height
  pub same : (u v : ℕ) → u < p.width → v < p.height → is_in_block x y 16 16 u v ≡ false → pixel q u v ≡ pixel p u v

in_part : (x y a b u v : ℕ) → x ≤ a → a + 4 ≤ x + 16 → y ≤ b → b + 4 ≤ y + 16 → is_in_block x y 16 16 u v ≡ false → is_in_block a b 4 4 u v ≡ false
in_part x y a b u v xa ax yb by e = grind (arith, nat_tests)

one_more : (p : Raster) (x y : ℕ) (q : Raster) (a b : ℕ) (g : ℕ → ℕ → ℕ) → x ≤ a → a + 4 ≤ x + 16 → y ≤ b → b + 4 ≤ y + 16
    → IsSameOutside p x y q → IsSameOutside p x y (with_block q a b 4 4 g)
one_more p x y q a b g xa ax yb by h = record {
  width = h.width;
  height = h.height;
  same = λ u v uin vin out.
      let w = h.width in
      let t = h.height in
      pixel-with_block q a b 4 4 g u v (omega arith) (omega arith) ∙ rw (in_part x y a b u v xa ax yb by out) (h.same u v uin vin out);
}

pub after_outside : (factors : Factors) (place : Place) (p : Raster) (s : Subblocks) (n : ℕ) → n ≤ 16
    → IsSameOutside p (16 * place.column) (16 * place.row) (after_subblocks factors place p s n)
after_outside factors place p s n most =
    over-holds (IsSameOutside p (16 * place.column) (16 * place.row)) n (sub_rebuilt factors place s) p
    (λ k below q h. one_more p (16 * place.column) (16 * place.row) q (4 * (place.column * 4 + k % 4)) (4 * (place.row * 4 + k / 4)) _
    (omega arith) (omega arith) (omega arith) (omega arith) h)
    (record { width = refl; height = refl; same = λ u v uin vin out. refl })

in_it : (x y u v : ℕ) → is_in_block x y 16 16 u v ≡ true → (x ≤ u) × (u < x + 16) × (y ≤ v) × (v < y + 16)
in_it x y u v e = (grind (arith, nat_tests), grind (arith, nat_tests), grind (arith, nat_tests), grind (arith, nat_tests))

pub restored : (p q : Raster) (place : Place) (f : ℕ → ℕ → ℕ) → IsWhole p → IsSameOutside p (16 * place.column) (16 * place.row) q
    → ((r c : ℕ) → r < 16 → c < 16 → f r c ≡ block_pixels 16 p place r c)
    → with_block q (16 * place.column) (16 * place.row) 16 16 f ≡ p
restored p q place f whole h kept =
    let x = 16 * place.column in
    let y = 16 * place.row in
    let w = h.width in
    let t = h.height in
    same_raster (with_block q x y 16 16 f) p h.width h.height (IsWhole-with_block q x y 16 16 f) whole (λ u v uin vin.
    pixel-with_block q x y 16 16 f u v uin vin ∙ elim (cases_Bool (is_in_block x y 16 16 u v)) [
      | inl within ↦
          let at = in_it x y u v within in
          let column : x + (u - x) ≡ u = omega (arith, at) in
          let row : y + (v - y) ≡ v = omega (arith, at) in
          rw within (kept (v - y) (u - x) (omega (arith, at)) (omega (arith, at)) ∙ rw (column, row))
      | inr past ↦ rw past (h.same u v (omega arith) (omega arith) past)
    ])

-- the other way: the macroblock of q, written into p
pub written_back : (factors : Factors) (place : Place) (p : Raster) (s : Subblocks) (n : ℕ) (f : ℕ → ℕ → ℕ) → n ≤ 16 → IsWhole p
    → ((r c : ℕ) → r < 16 → c < 16 → f r c ≡ block_pixels 16 (after_subblocks factors place p s n) place r c)
    → with_block p (16 * place.column) (16 * place.row) 16 16 f ≡ after_subblocks factors place p s n
written_back factors place p s n f most whole are =
    let q : Raster = after_subblocks factors place p s n in
    let h : IsSameOutside p (16 * place.column) (16 * place.row) q = after_outside factors place p s n most in
    let all : IsWhole q = over-holds IsWhole n (sub_rebuilt factors place s) p (λ k below r _. IsWhole-with_block r (4 * (place.column * 4 + k % 4)) (4 * (place.row * 4 + k / 4)) 4 4 _) whole in
    let w = h.width in
    let t = h.height in
    restored q p place f all
    (record { width = sym h.width; height = sym h.height; same = λ u v uin vin out. sym (h.same u v (omega arith) (omega arith) out) }) are
