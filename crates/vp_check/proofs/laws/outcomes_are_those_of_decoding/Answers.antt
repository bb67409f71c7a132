use Rattle.std.proofs.Common.{None}
use Rattle.vp_stream.specs.Answers.{reading_of}
use Rattle.vp_check.proofs.CheckLemmas.{outcomes_from}
use Rattle.vp_check.proofs.laws.outcomes_are_those_of_decoding.Goals as goal

pub returns : goal.returns
returns c limits file = outcomes_from limits None (reading_of limits file).packets
