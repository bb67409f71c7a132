use Rattle.std.proofs.Common.{◌≡◌, length}
use Rattle.vp_base.specs.Grid.{Grid}
use Rattle.vp_tokens.specs.Blocks.{Blocks}
use Rattle.vp_tokens.specs.Contexts.{AreContextsAt}
use Rattle.vp_decode.specs.MacroblockMaps.{place}
use Rattle.vp_decode.specs.Frame.{FrameInfo}
use Rattle.vp_encode.specs.Written.{IsPlanOf, IsTokenRow}
use Rattle.vp_encode.proofs.tokens.write_token_row.Given as goal

abbrev pub invariant-loop-column : goal.invariant-loop-column
invariant-loop-column l = record {
  wide : length l.contexts.above ≡ length l.initial.contexts.above;
  so_far : (f : FrameInfo) (g : Grid Blocks) → IsPlanOf l.coded f → g.columns ≡ l.coded.macroblocks.columns → g.rows ≡ l.coded.macroblocks.rows
      → AreContextsAt g (place l.row 0) l.initial.contexts → IsTokenRow f l.coded l.row l.column g l.contexts l.initial.e l.e;
}
