use Rattle.std.proofs.Common.{inl, inr, rules}
use Rattle.std.proofs.lemmas.Int.{to_z-of_z}
use mir.Syntax.{w16}
use mir.Val.{SFits}
use Rattle.vp_tokens.proofs.LevelWriting.{any_level}
use Rattle.vp_tokens.proofs.level_writing.write_any.Goals as goal

pub write_walk-requires : goal.write_walk-requires
write_walk-requires c = elim c.requires.from_in [
  | inl root ↦ inl root
  | inr second ↦ inr (second, c.token_of-token.ensures.goes_on)
]

pub returns : goal.returns
returns c =
    let fits : SFits w16 c.args.level = search rules in
    let same = to_z-of_z w16 c.args.level fits in
    let u = rw same at c.unsigned_abs-magnitude.ensures.value in
    let sign = rw (same, ← u) at c.in_ok-write_signed.ensures in
    any_level _ c.token_of-token.result c.unsigned_abs-magnitude.result c.args.level u c.token_of-token.ensures.goes_on c.in_ok-write_walk.ensures c.in_ok-write_magnitude.ensures sign
