use Rattle.std.proofs.Common.{◌≡◌}
use Rattle.std.proofs.lemmas.Result.{IfOk-weaker}
use Rattle.clap.specs.Simple.{app_of}
use Rattle.vp_args.specs.Args.{vp8_app}
use Rattle.vp_args.specs.Tables.{with_parts}
use Rattle.vp_args.proofs.ArgsLemmas.{all_met}
use Rattle.vp_args.proofs.words.program.Goals as goal

pub returns : goal.returns
returns c = IfOk-weaker c.with_parts.result _ _ (λ new h. all_met c.args.many (app_of new) (let k : app_of new ≡ with_parts c.args.many vp8_app c.as_slice.result.now = h in rw c.as_slice.ensures at k)) c.with_parts.ensures
