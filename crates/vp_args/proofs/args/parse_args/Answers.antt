use Rattle.std.proofs.Common.{◌≡◌, ◌∙◌, ap}
use Rattle.clap.specs.Simple.{app_of}
use Rattle.clap.specs.Walk.{texts}
use Rattle.vp_args.specs.Args.{asks_many, program}
use Rattle.vp_args.proofs.ArgsLemmas.{is_fault, is_found}
use Rattle.vp_args.proofs.args.parse_args.Goals as goal

pub returns : goal.returns
returns c =
    let parse = c.try_get_matches_from in
    let is : app_of c.in_ok-program.field-0 ≡ program (asks_many (texts c.args.words.now)) = c.in_ok-program.ensures ∙ ap program c.asks_many.ensures in record {
      found = is_found parse.result (app_of c.in_ok-program.field-0) (texts c.args.words.now) is parse.ensures.matches parse.ensures.kinds;
      fault = is_fault parse.result (app_of c.in_ok-program.field-0) (texts c.args.words.now) is parse.ensures.kinds;
    }
