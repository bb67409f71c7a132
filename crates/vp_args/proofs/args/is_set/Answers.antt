use Rattle.std.proofs.Common.{◌∙◌}
use Rattle.clap.proofs.WalkLemmas.{one_text-rows}
use Rattle.clap.specs.Words.{found_of}
use Rattle.vp_args.proofs.ArgsLemmas.{flag_is}
use Rattle.vp_args.proofs.args.is_set.Goals as goal

pub returns : goal.returns
returns c =
    let e = one_text-rows (found_of c.args.found.now) c.args.name.now in
    flag_is _ c.get_flag.result (λ h. c.get_flag.ensures.none (e ∙ h)) (λ h. c.get_flag.ensures.value (e ∙ h)) (λ h. c.get_flag.ensures.other (e ∙ h))
