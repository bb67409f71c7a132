use Rattle.vp_args.proofs.PlainArgs.{still_asked, still_taken}
use Rattle.vp_args.proofs.laws.picture_words.Goals as goal

pub returns : goal.returns
returns c = λ name input output h k. (still_taken name input output h k, still_asked name input output h k)
