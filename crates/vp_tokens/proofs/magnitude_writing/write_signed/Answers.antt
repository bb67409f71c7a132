use Rattle.std.proofs.Common.{◌≡◌, ◌≢◌, pos, refl, arith, rules}
use Rattle.std.proofs.lemmas.Int.{ints, to_z-of_z}
use mir.Syntax.{w16}
use mir.Val.{SFits}
use Rattle.vp_tokens.proofs.WritingLemmas.{sign_written, sign_unwritten}
use Rattle.vp_tokens.proofs.magnitude_writing.write_signed.Goals as goal

pub returns-then-level-eq0 : goal.returns-then-level-eq0
returns-then-level-eq0 c = sign_unwritten _ _ (let e : c.args.level ≡ pos 0 = omega (arith, ints) in e)

pub returns : goal.returns
returns c =
    let fits : SFits w16 c.args.level = search rules in
    let ne : c.args.level ≢ pos 0 = λ h. omega (arith, ints) in
    sign_written c.args.level _ ne (rw (to_z-of_z w16 c.args.level fits) refl) c.in_ok-write.ensures.reads
