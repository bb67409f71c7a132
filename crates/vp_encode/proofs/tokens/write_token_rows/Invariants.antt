use Rattle.std.proofs.Common.{◌≡◌, length}
use Rattle.vp_decode.specs.Frame.{FrameInfo}
use Rattle.vp_encode.specs.Written.{IsPlanOf, AreTokenRows}
use Rattle.vp_encode.proofs.tokens.write_token_rows.Given as goal

abbrev pub invariant-loop-row : goal.invariant-loop-row
invariant-loop-row l = record {
  wide : length l.contexts.above ≡ l.coded.macroblocks.columns;
  so_far : (f : FrameInfo) → IsPlanOf l.coded f → AreTokenRows f l.coded l.row l.contexts l.encoders;
}
