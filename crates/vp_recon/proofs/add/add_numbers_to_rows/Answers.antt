use Rattle.std.proofs.Common.{◌≡◌, ◌∙◌, ℕ, ◌+◌, ◌*◌, ◌≤◌, ℤ, List, get_or, unsigned_abs, sym, ap, arith}
use Rattle.vp_recon.proofs.Words.{Raster, pixel, with_block_same, lane, summed, row_pixel, strip_sum, handed16, passed16, below_four}
use Rattle.vp_recon.proofs.SumLemmas.{low_handed}
use Rattle.vp_recon.proofs.StripLemmas.{pixel_in}
use Rattle.vp_recon.proofs.add.add_numbers_to_rows.Goals as goal

pub summed_row-a-requires : goal.summed_row-a-requires
summed_row-a-requires g c = (omega arith, (omega arith, (c.requires.few, (omega (arith, c.requires.room), low_handed g.row.N c.args.a (λ j h. c.requires.low 0 j (omega arith) h)))))

pub summed_row-b-requires : goal.summed_row-b-requires
summed_row-b-requires g c = (omega arith, (omega arith, (c.requires.few, (omega (arith, c.requires.room), low_handed g.row.N c.args.b (λ j h. c.requires.low 1 j (omega arith) h)))))

pub summed_row-c-requires : goal.summed_row-c-requires
summed_row-c-requires g c = (omega arith, (omega arith, (c.requires.few, (omega (arith, c.requires.room), low_handed g.row.N c.args.c (λ j h. c.requires.low 2 j (omega arith) h)))))

pub summed_row-d-requires : goal.summed_row-d-requires
summed_row-d-requires g c = (omega arith, (omega arith, (c.requires.few, (omega (arith, c.requires.room), low_handed g.row.N c.args.d (λ j h. c.requires.low 3 j (omega arith) h)))))

pub returns : goal.returns
returns g c own rows = record {
  len = c.put_rows.ensures.len;
  value = λ p x y lies.
      let w : ℕ = c.args.stride in
      let first : c.args.at ≡ y * c.args.stride + x = lies.start ∙ ap (λ (k : ℕ). y * k + x) lies.wide in
      let row : (r i j : ℕ) (v : List ℤ) (s : List ℕ) (z : ℤ) → i ≡ y * c.args.stride + x + r * c.args.stride → unsigned_abs (lane v j) ≤ 8800
      → ((b : ℕ) → b ≤ 255 → summed b (lane v j) ≡ summed b z) → get_or c.args.pixels.now (i + j) 0 ≤ 255
      → get_or s j 0 ≡ summed (get_or c.args.pixels.now (i + j) 0) (lane (handed16 v) j) → get_or s j 0 ≡ summed (pixel p (x + j) (y + r)) z =
      λ r i j v s z here low sums byte is.
      is ∙ ap (summed (get_or c.args.pixels.now (i + j) 0)) (passed16 v j 8800 (omega arith) low) ∙ sums (get_or c.args.pixels.now (i + j) 0) byte
      ∙ ap (λ (b : ℕ). summed b z) (pixel_in p c.args.pixels.now x y r j i w (sym lies.same) (sym lies.wide) here) in
      let s0 = c.summed_row-a.result in
      let s1 = c.summed_row-b.result in
      let s2 = c.summed_row-c.result in
      let s3 = c.summed_row-d.result in
      c.put_rows.ensures.value p x y lies
      ∙ ap (λ (q : Raster). q.pixels) (with_block_same p x y g.row.N 4 (row_pixel s0 s1 s2 s3) (strip_sum p x y own)
      (λ r j rin jin.
      let a = c.summed_row-a.ensures in
      let b = c.summed_row-b.ensures in
      let d = c.summed_row-c.ensures in
      let e = c.summed_row-d.ensures in
      below_four (λ i. row_pixel s0 s1 s2 s3 i j ≡ strip_sum p x y own i j)
      (row 0 c.args.at j c.args.a s0 _ (omega arith) (c.requires.low 0 j (omega arith) jin) (λ v. rows.sums 0 j v (omega arith) jin) (a.bytes j jin) (a.value j jin))
      (row 1 (c.args.at + w) j c.args.b s1 _ (omega arith) (c.requires.low 1 j (omega arith) jin) (λ v. rows.sums 1 j v (omega arith) jin) (b.bytes j jin) (b.value j jin))
      (row 2 (c.args.at + w + w) j c.args.c s2 _ (omega arith) (c.requires.low 2 j (omega arith) jin) (λ v. rows.sums 2 j v (omega arith) jin) (d.bytes j jin) (d.value j jin))
      (row 3 (c.args.at + w + w + w) j c.args.d s3 _ (omega arith) (c.requires.low 3 j (omega arith) jin) (λ v. rows.sums 3 j v (omega arith) jin) (e.bytes j jin) (e.value j jin))
      r rin));
}
