use Rattle.std.proofs.Common.{rules}
use Rattle.std.proofs.lemmas.Option.{MatchOption-at_none}
use Rattle.clap.specs.Walk.{texts}
use Rattle.vp_args.proofs.ArgsLemmas.{naming_memory, no_naming}
use Rattle.vp_args.proofs.args.named_files.Goals as goal

pub returns-in_default-clause-refusal : goal.returns-in_default-clause-refusal
returns-in_default-clause-refusal c =
    no_naming c.args.operands.now c.loop-operand.operand-index _ c.loop-operand-test.true (MatchOption-at_none {o = c.split_once.result} _ _ (search rules) (c.split_once.ensures.byte (search rules) (λ w o h. h)))

pub returns-then-is_err-clause-refusal : goal.returns-then-is_err-clause-refusal
returns-then-is_err-clause-refusal c = naming_memory (texts c.args.operands.now) c.from.result c.from.ensures
