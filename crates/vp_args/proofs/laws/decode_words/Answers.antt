use Rattle.vp_args.proofs.PlainArgs.{decode_asked, decode_taken, y4m_asked, y4m_taken}
use Rattle.vp_args.proofs.laws.decode_words.Goals as goal

pub returns : goal.returns
returns c = record {
  plain = λ name input output h k. (decode_taken name input output h k, decode_asked name input output h k);
  y4m = λ name input output h k. (y4m_taken name input output h k, y4m_asked name input output h k);
}
