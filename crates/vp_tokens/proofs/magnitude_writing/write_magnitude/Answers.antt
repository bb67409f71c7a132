use Rattle.std.proofs.Common.{arith}
use Rattle.vp_tokens.proofs.WritingLemmas.{size_unwritten}
use Rattle.vp_tokens.proofs.magnitude_writing.write_magnitude.Goals as goal

pub returns-then-value : goal.returns-then-value
returns-then-value c = size_unwritten c.args.token c.args.value _ c.requires (omega arith)
