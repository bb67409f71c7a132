use Rattle.std.proofs.Common.{◌≡◌, ◌∙◌, ℕ, List, [], length, get_or, map, ap, sym, arith}
use Rattle.std.proofs.lemmas.Simd.{length-put_chunk}
use Rattle.std.proofs.lemmas.List.{get_or-map}
use Rattle.vp_loop.specs.Lanes.{pixel_of}
use Rattle.vp_loop.proofs.RowWrites.{one_more}
use Rattle.vp_loop.proofs.store.write_rows_at.Goals as goal

pub loop-r-preserved : goal.loop-r-preserved
loop-r-preserved g c =
    let room = c.requires.room c.loop-r.r (omega arith) in
    let size = c.loop-r.invariant.size in
    let here = c.loop-r.invariant.here in
    let v = c.index-rows-r.result in
    let long : length (g.R.Row.pixels v) ≡ g.R.Row.count = c.put.ensures.long in
    let own : get_or (map g.R.Row.pixels c.args.rows.now) c.loop-r.r [] ≡ g.R.Row.pixels v =
    get_or-map g.R.Row.pixels c.args.rows.now c.loop-r.r v [] c.loop-r-test.true ∙ ap g.R.Row.pixels (sym c.index-rows-r.is) in
    record {
      size = ap length c.put.ensures.value ∙ (length-put_chunk c.loop-r.next c.loop-r.pixels (g.R.Row.pixels v) ∙ size);
      here = omega arith;
      copied = λ p x y whole same wide at columns rows.
          one_more p x y g.R.Row.count c.loop-r.r (pixel_of g.R.Row.pixels c.args.rows.now) c.loop-r.pixels c.put.new.to (g.R.Row.pixels v) c.args.at c.loop-r.next c.args.stride
          columns (omega arith) wide at here (c.loop-r.invariant.copied p x y whole same wide at columns rows) (omega arith) c.put.ensures.value long (λ k h. ap (λ (l : List ℕ). get_or l k 0) (sym own));
    }
