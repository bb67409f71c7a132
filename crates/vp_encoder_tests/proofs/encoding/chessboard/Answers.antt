use Rattle.std.proofs.Common.{refl}
use Rattle.vp_encoder_tests.proofs.encoding.chessboard.Goals as goal

pub returns-clause-spelled : goal.returns-clause-spelled
returns-clause-spelled c h g p key skip = record {
  segment = λ e. rw key refl;
  skip = λ none. absurd (let s = rw none at skip in cc);
  reference = λ e. refl;
  inter = λ away. absurd cc;
  subs = λ e. absurd cc;
}
