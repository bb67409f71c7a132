use Rattle.std.proofs.Common.{◌≡◌, false, refl, inl, inr, arith}
use Rattle.vp_tokens.proofs.WalkWritingLemmas.{front_written, end_coded, end_uncoded}
use Rattle.vp_tokens.proofs.level_writing.write_front.Goals as goal

pub returns-in_ok-write_pair : goal.returns-in_ok-write_pair
returns-in_ok-write_pair c =
    let root : c.args.from ≡ 0 = omega arith in
    let row = c.args.row.now in
    rw root (front_written row 0 c.args.is_nonzero (inl refl) (end_coded row false c.in_ok-write_pair.ensures.reads_first) c.in_ok-write_pair.ensures.reads_second)

pub returns-in_ok-write : goal.returns-in_ok-write
returns-in_ok-write c =
    let second : c.args.from ≡ 2 = elim c.requires [
      | inl root ↦ absurd (omega arith)
      | inr e ↦ e
    ] in
    let row = c.args.row.now in
    front_written row c.args.from c.args.is_nonzero c.requires (end_uncoded row c.args.from false _ second refl) c.in_ok-write.ensures.reads
