use Rattle.std.proofs.Common.{◌≡◌, ◌∙◌, ◌||◌, not, refl, ap, arith}
use Rattle.vp_base.specs.Grid.{Has}
use Rattle.vp_tables.specs.Modes.{is_by_subblocks, is_split}
use Rattle.vp_modes.specs.Entry.{Modes}
use Rattle.vp_decode.specs.MacroblockMaps.{place}
use Rattle.vp_encode.specs.CodedFrame.{choice_has_y2}
use Rattle.vp_encode.proofs.TokenLemmas.{token_row_none, token_row_next, spelled_at, y2_at}
use Rattle.vp_encode.proofs.tokens.write_token_row.Goals.{After-has_y2}
use Rattle.vp_encode.proofs.tokens.write_token_row.Goals as goal

pub loop-column-init : goal.loop-column-init
loop-column-init c = record { wide = refl; so_far = λ f g plan wide high stands. token_row_none f c.args.coded.now c.args.row g c.args.contexts.now c.args.e.now stands }

there : (c : After-has_y2) → Has c.args.coded.now.macroblocks (place c.args.row c.loop-column.column)
there c = record { column = omega arith; row = c.requires.row }

y2 : (c : After-has_y2) → c.has_y2.result ≡ choice_has_y2 c.get-macroblock.result.now
y2 c =
    y2_at c.args.coded.now _ c.get-macroblock.result.now c.args.motion.now c.get.result.now c.has_y2.result c.requires.motion c.requires.plain (there c) c.get-macroblock.ensures c.get.ensures
    (c.has_y2.ensures ∙ (λ i. not (is_split (c.behind-motion.view_is i).mode || is_by_subblocks (c.modes.view_is i).luma)))

pub write_macroblock-requires-clause-spelled : goal.write_macroblock-requires-clause-spelled
write_macroblock-requires-clause-spelled c =
    let here = (goal.at.write_macroblock-requires-clause-spelled c).After-has_y2 in
    spelled_at c.args.coded.now _ c.get-macroblock.result.now c.has_y2.result c.requires.spelled (there here) c.get-macroblock.ensures (y2 here)

pub loop-column-preserved : goal.loop-column-preserved
loop-column-preserved c = record {
  wide = c.in_ok-write_macroblock.ensures.columns ∙ c.loop-column.invariant.wide;
  so_far = λ f g plan wide high stands.
      token_row_next f c.args.coded.now c.args.row c.loop-column.column g c.get-macroblock.result.now c.has_y2.result _ _ c.loop-column.contexts c.write_macroblock.new.contexts
      plan (omega arith) c.requires.row wide high c.get-macroblock.ensures (y2 (goal.at.loop-column-preserved c).After-has_y2) (ap (λ (m : Modes). m.skip) c.modes.view_is) refl (c.loop-column.invariant.so_far f g plan wide high stands)
      c.in_ok-write_macroblock.ensures.writes c.in_ok-write_macroblock.ensures.stands;
}
