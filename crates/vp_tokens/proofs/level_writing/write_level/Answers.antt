use Rattle.std.proofs.Common.{◌≡◌, ◌≢◌, pos, refl, rules, arith}
use Rattle.std.specs.Prelude.{unsigned_abs}
use Rattle.std.proofs.lemmas.Int.{ints, to_z-of_z}
use mir.Syntax.{w16}
use mir.Val.{SFits}
use Rattle.vp_tokens.proofs.WritingLemmas.{sign_written}
use Rattle.vp_tokens.proofs.WalkWritingLemmas.{one_written}
use Rattle.vp_tokens.proofs.LevelWriting.{zero_level, one_level}
use Rattle.vp_tokens.proofs.level_writing.write_level.Goals as goal

pub returns-then-magnitude-eq0-clause-written : goal.returns-then-magnitude-eq0-clause-written
returns-then-magnitude-eq0-clause-written c =
    let fits : SFits w16 c.args.level = search rules in
    let u = rw (to_z-of_z w16 c.args.level fits) at c.unsigned_abs-magnitude.ensures.value in
    let none : unsigned_abs c.args.level ≡ 0 = omega arith in
    zero_level _ c.args.level none c.in_ok-write_front.ensures

pub returns-then-magnitude-eq1-clause-written : goal.returns-then-magnitude-eq1-clause-written
returns-then-magnitude-eq1-clause-written c =
    let fits : SFits w16 c.args.level = search rules in
    let same = to_z-of_z w16 c.args.level fits in
    let u = rw same at c.unsigned_abs-magnitude.ensures.value in
    let one : unsigned_abs c.args.level ≡ 1 = omega arith in
    let ne : c.args.level ≢ pos 0 = λ h. omega (arith, ints) in
    let sign = sign_written c.args.level _ ne (rw same refl) c.in_ok-write_pair.ensures.reads_second in
    one_level _ c.args.level one (one_written c.args.row.now c.in_ok-write_front-2.ensures c.in_ok-write_pair.ensures.reads_first) sign
