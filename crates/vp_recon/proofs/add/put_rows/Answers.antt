use Rattle.std.proofs.Common.{◌≡◌, ◌∙◌, ◌+◌, ℕ, List, [], ◌∷◌, length, get_or, refl, ap, arith}
use Rattle.vp_recon.proofs.Words.{length-put_chunk, row_pixel}
use Rattle.vp_recon.proofs.StripLemmas.{none_yet, one_more}
use Rattle.vp_recon.proofs.add.put_rows.Goals as goal

pub returns : goal.returns
returns g c =
    let at : ℕ = c.args.at in
    let w : ℕ = c.args.stride in
    let row : ℕ → List ℕ = λ r. get_or (c.args.a ∷ c.args.b ∷ c.args.c ∷ c.args.d ∷ []) r [] in
    let one_long : length c.put.new.pixels ≡ length c.args.pixels.now = ap length c.put.ensures.value ∙ length-put_chunk c.args.at c.args.pixels.now (row 0) in
    let two_long : length c.put-2.new.pixels ≡ length c.args.pixels.now = ap length c.put-2.ensures.value ∙ length-put_chunk (c.args.at + c.args.stride) c.put.new.pixels (row 1) ∙ one_long in
    let three_long : length c.put-3.new.pixels ≡ length c.args.pixels.now = ap length c.put-3.ensures.value ∙ length-put_chunk (c.args.at + c.args.stride + c.args.stride) c.put-2.new.pixels (row 2) ∙ two_long in
    record {
      len = ap length c.put-4.ensures.value ∙ length-put_chunk (c.args.at + c.args.stride + c.args.stride + c.args.stride) c.put-3.new.pixels (row 3) ∙ three_long;
      value = λ p x y lies.
          let high = lies.rows in
          let f : ℕ → ℕ → ℕ = row_pixel c.args.a c.args.b c.args.c c.args.d in
          let n : ℕ = g.row.N in
          let room = c.requires.room in
          let one = one_more p x y n 0 f c.args.pixels.now c.put.new.pixels (row 0) at at w lies.columns (omega arith) lies.wide lies.start (omega arith)
          (none_yet p x y n f c.args.pixels.now lies.whole lies.same) (omega arith) c.put.ensures.value c.put.ensures.long (λ k h. refl) in
          let two = one_more p x y n 1 f c.put.new.pixels c.put-2.new.pixels (row 1) at (c.args.at + c.args.stride) w lies.columns (omega arith) lies.wide lies.start (omega arith)
          one (omega (arith, one_long)) c.put-2.ensures.value c.put-2.ensures.long (λ k h. refl) in
          let three = one_more p x y n 2 f c.put-2.new.pixels c.put-3.new.pixels (row 2) at (c.args.at + c.args.stride + c.args.stride) w lies.columns (omega arith) lies.wide lies.start (omega arith)
          two (omega (arith, two_long)) c.put-3.ensures.value c.put-3.ensures.long (λ k h. refl) in
          one_more p x y n 3 f c.put-3.new.pixels c.put-4.new.pixels (row 3) at (c.args.at + c.args.stride + c.args.stride + c.args.stride) w lies.columns (omega arith) lies.wide lies.start (omega arith)
          three (omega (arith, three_long)) c.put-4.ensures.value c.put-4.ensures.long (λ k h. refl);
    }
