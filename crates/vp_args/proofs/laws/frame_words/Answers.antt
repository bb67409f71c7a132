use Rattle.vp_args.proofs.PlainArgs.{frame_asked, frame_taken}
use Rattle.vp_args.proofs.laws.frame_words.Goals as goal

pub returns : goal.returns
returns c = λ name number input output n h k. (frame_taken name number input output n h k, frame_asked name number input output n h k)
