use Rattle.std.proofs.Common.{◌≡◌, ◌∙◌, ℕ, ◌+◌, ◌*◌, ◌<◌, ◌≤◌, List, length, refl, sym, ap, subst, arith, get_or, inl, inr}
use Rattle.std.proofs.lemmas.Bool.{cases_lt}
use Rattle.vp_base.specs.Raster.{Raster, pixel_index, overlay}
use Rattle.vp_base.specs.Block.{written, IsWhole}
use Rattle.vp_base.proofs.BlockLemmas.{with_block_none, with_block_more}
use Rattle.vp_base.proofs.plane.copy_rows.Goals as goal

none_yet : (p : Raster) (x y n : ℕ) (f : ℕ → ℕ → ℕ) (to : List ℕ) → IsWhole p → p.pixels ≡ to → to ≡ written p x y n 0 f
none_yet p x y n f to whole same = sym same ∙ sym (ap (λ (q : Raster). q.pixels) (with_block_none p x y n f whole))

place_is : (p : Raster) (x y r at width : ℕ) → p.width ≡ width → at ≡ pixel_index p x y → at + r * width ≡ pixel_index p x (y + r)
place_is p x y r at width wide here =
    let same : r * p.width ≡ r * width = ap (λ (k : ℕ). r * k) wide in
    omega arith

one_more : (p : Raster) (x y n r : ℕ) (f : ℕ → ℕ → ℕ) (before after row : List ℕ) (at : ℕ) → x + n ≤ p.width → y + r < p.height
    → before ≡ written p x y n r f → at ≡ pixel_index p x (y + r) → after ≡ overlay before at row
    → length row ≡ n → ((c : ℕ) → c < n → get_or row c 0 ≡ f r c) → after ≡ written p x y n (r + 1) f
one_more p x y n r f before after row at wide high done here put size value =
    put
    ∙ ap (λ (i : ℕ). overlay before i row) here
    ∙ ap (λ (ns : List ℕ). overlay ns (pixel_index p x (y + r)) row) done
    ∙ ap (λ (q : Raster). q.pixels) (with_block_more p x y n r f row wide high size value)

pub loop-r-init : goal.loop-r-init
loop-r-init g c = record {
  size = refl;
  target = λ some. omega arith;
  source = λ some. omega arith;
  copied = λ p x y whole same wide here columns rows.
      none_yet p x y g.row.N (λ r k. get_or c.args.from.now (c.args.start + r * c.args.step + k) 0) c.args.to.now whole same;
  bytes = λ r k below. absurd (omega arith);
}

pub loop-r-preserved : goal.loop-r-preserved
loop-r-preserved g c =
    let target : c.loop-r.target ≡ c.args.at + c.loop-r.r * c.args.width = c.loop-r.invariant.target (omega arith) in
    let source : c.loop-r.source ≡ c.args.start + c.loop-r.r * c.args.step = c.loop-r.invariant.source (omega arith) in
    record {
      size = c.put_part.ensures.len ∙ c.loop-r.invariant.size;
      target = λ some. omega (arith, c.next_row-target.ensures some, target);
      source = λ some. omega (arith, c.next_row-source.ensures some, source);
      copied = λ p x y whole same wide here columns rows.
          one_more p x y g.row.N c.loop-r.r (λ r k. get_or c.args.from.now (c.args.start + r * c.args.step + k) 0) c.loop-r.to c.put_part.new.to c.part.result
          c.loop-r.target columns (omega arith) (c.loop-r.invariant.copied p x y whole same wide here columns rows)
          (target ∙ place_is p x y c.loop-r.r c.args.at c.args.width wide here) c.put_part.ensures.value c.part.ensures.len
          (λ k within. c.part.ensures.value k within ∙ ap (λ (i : ℕ). get_or c.args.from.now (i + k) 0) source);
      bytes = λ r k below within. elim (cases_lt r c.loop-r.r) [
        | inl less ↦ c.loop-r.invariant.bytes r k less within
        | inr last ↦
            let e : c.loop-r.r ≡ r = omega arith in
            let place : c.loop-r.source ≡ c.args.start + r * c.args.step = source ∙ ap (λ (i : ℕ). c.args.start + i * c.args.step) e in
            subst (λ (v : ℕ). v ≤ 255) (c.part.ensures.value k within ∙ ap (λ (i : ℕ). get_or c.args.from.now (i + k) 0) place) (c.part.ensures.bytes k)
      ];
    }
