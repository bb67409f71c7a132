use Rattle.vp_decode.proofs.Words.{◌≡◌, ◌∙◌, ℕ, ◌<◌, ap, subst, arith, Grid, Blocks, FrameInfo, row_seen, place, FrameDecoder, IsMacroblockStep, IsRow}
use Rattle.vp_decode.proofs.ReadingLemmas.{same_frame, then_same, row_none, row_next, row_has}
use Rattle.vp_decode.proofs.frame_decoder.FrameDecoder.decode_row.Goals as goal

pub loop-column-init : goal.loop-column-init
loop-column-init c = record { same = same_frame c.args.self.now; made = λ g wide inside stands. row_none c.args.self.now.info c.args.row g c.args.d.now c.args.self.now stands }

pub loop-column-preserved : goal.loop-column-preserved
loop-column-preserved c = record {
  same = then_same c.args.self.now c.loop-column.self c.decode_macroblock.new.self c.loop-column.invariant.same c.decode_macroblock.ensures.same;
  made = λ g wide inside stands.
      let f : FrameInfo = c.args.self.now.info in
      let n : ℕ = c.loop-column.column in
      let made : IsRow f c.args.row n g c.args.d.now c.loop-column.d c.args.self.now c.loop-column.self = c.loop-column.invariant.made g wide inside stands in
      let seen : Grid Blocks = (row_seen f c.args.row n g c.args.d.now).0 in
      let columns : c.columns-column-end.result ≡ f.maps.modes.columns = c.columns-column-end.ensures.value ∙ ap (λ (b : FrameDecoder). b.info.maps.modes.columns) c.self.view_is in
      let within : n < g.columns = omega (arith, columns, wide) in
      let step = c.decode_macroblock.ensures.step seen (row_has f c.args.row n g c.args.d.now within inside) made.contexts in
      row_next f c.args.row n g c.args.d.now c.loop-column.d c.decode_macroblock.new.d c.args.self.now c.loop-column.self c.decode_macroblock.new.self made
      (subst (λ (z : FrameInfo). IsMacroblockStep z (place c.args.row n) seen c.loop-column.d c.decode_macroblock.new.d c.loop-column.self c.decode_macroblock.new.self) c.loop-column.invariant.same.info step);
}
