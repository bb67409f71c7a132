use Rattle.vp_args.proofs.PlainArgs.{info_asked, info_taken}
use Rattle.vp_args.proofs.laws.info_words.Goals as goal

pub returns : goal.returns
returns c = λ name input h. (info_taken name input h, info_asked name input h)
