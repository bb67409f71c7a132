use Rattle.std.proofs.Common.{rules}
use Rattle.vp_tokens.proofs.Steps.{stands-none}
use Rattle.vp_tokens.proofs.contexts.Contexts.refill.Goals as goal

pub returns-clause-stands : goal.returns-clause-stands
returns-clause-stands c = λ rows. stands-none c.args.columns rows _ (search rules) (search rules)
