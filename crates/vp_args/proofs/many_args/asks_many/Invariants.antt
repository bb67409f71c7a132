use Rattle.std.proofs.Common.{◌≡◌, drop}
use Rattle.clap.specs.Walk.{texts}
use Rattle.vp_args.specs.Args.{asks_many}
use Rattle.vp_args.proofs.many_args.asks_many.Given as goal

-- the words so far decide nothing
abbrev pub invariant-loop-word : goal.invariant-loop-word
invariant-loop-word l = asks_many (texts l.words) ≡ asks_many (texts (drop l.word-index l.words))
