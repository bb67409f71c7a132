use Rattle.vp_args.proofs.PlainArgs.{told_asked, told_taken, two_asked, two_taken}
use Rattle.vp_args.proofs.laws.check_words.Goals as goal

pub returns : goal.returns
returns c = record {
  files = λ name first second h k. (two_taken name first second h k, two_asked name first second h k);
  verbose = λ name input h. (told_taken name input h, told_asked name input h);
}
