use Rattle.std.proofs.Common.{◌≡◌, inl, inr, arith}
use Rattle.vp_tokens.proofs.WalkWritingLemmas.{end_coded, end_uncoded}
use Rattle.vp_tokens.proofs.walk_writing.write_end.Goals as goal

pub returns-in_ok-write : goal.returns-in_ok-write
returns-in_ok-write c =
    let root : c.args.from ≡ 0 = omega arith in
    rw root (end_coded c.args.row.now c.args.ends c.in_ok-write.ensures.reads)

pub returns-else-from-eq0 : goal.returns-else-from-eq0
returns-else-from-eq0 c = elim c.requires [
  | inl root ↦ absurd (omega arith)
  | inr second ↦ end_uncoded c.args.row.now c.args.from c.args.ends _ second.0 second.1
]
