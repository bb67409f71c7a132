use Rattle.vp_decode.proofs.Words.{◌≡◌, ◌∙◌, length, map, take, ap, sym, arith, MacroblockMaps}
use Rattle.std.proofs.Math.Seq.{take-length}
use Rattle.std.proofs.lemmas.Simd.{map-map}
use Rattle.vp_decode.proofs.macroblocks.Macroblocks.segments_in.Goals as goal

pub returns : goal.returns
returns c =
    let all : c.loop-macroblock.macroblock-index ≡ length c.as_slice-macroblocks.result.now = omega (arith, c.loop-macroblock-test.false, c.loop-macroblock.auto.macroblock-index-end) in
    let items : c.loop-macroblock.segments.items ≡ map (λ m. m.segment) c.args.self.now.modes.entries =
    c.loop-macroblock.invariant.items ∙ ap (λ k. map (λ m. m.modes.segment) (take k c.as_slice-macroblocks.result.now)) all
    ∙ ap (λ ms. map (λ m. m.modes.segment) ms) (take-length c.as_slice-macroblocks.result.now ∙ c.as_slice-macroblocks.ensures.value)
    ∙ sym (map-map (λ m. m.segment) (λ m. m.modes) c.self.inside.grid.entries) ∙ ap (λ (m : MacroblockMaps). map (λ m. m.segment) m.modes.entries) c.self.view_is in
    c.of.ensures ∙ (λ i. record { columns = c.columns.ensures.value i; rows = c.rows.ensures.value i; entries = items i })
