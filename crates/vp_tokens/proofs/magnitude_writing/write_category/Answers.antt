use Rattle.std.proofs.Common.{◌≡◌, ◌+◌, ◌-◌, arith}
use Rattle.vp_bool.proofs.WritingLemmas.{Writes-then, Continues-given}
use Rattle.vp_tables.specs.Tables.{least_magnitude}
use Rattle.vp_tokens.specs.Levels.{level_magnitude}
use Rattle.vp_tokens.proofs.magnitude_writing.write_category.Goals as goal

pub returns : goal.returns
unfolding level_magnitude
returns c =
    let least = least_magnitude c.args.token in
    let whole : least + (c.args.value - least) ≡ c.args.value = omega (arith, c.requires.least) in
    Writes-then _ (rw (← c.extra_probabilities.ensures.value, ← c.least_magnitude.ensures.value) c.in_ok-write_bits.ensures) (Continues-given whole _)
