use Rattle.std.proofs.Common.{get_or, pos, rules}
use mir.Syntax.{w8}
use mir.Val.{SFits}
use Rattle.vp_bool.proofs.WritingLemmas.{Continues-then, Continues-given}
use Rattle.vp_head.specs.Rows.{optional_signed, four_signed}
use Rattle.vp_head.proofs.Mixed.{four_signed_are, four_written}
use Rattle.vp_head.proofs.Signs.{read}
use Rattle.vp_head.proofs.row_writing.write_four_signed.Goals as goal

pub returns : goal.returns
unfolding four_signed
returns c =
    let o = c.args.old.now in
    let n = c.args.new.now in
    let f0 : SFits w8 (get_or o 0 (pos 0)) = search rules in
    let f1 : SFits w8 (get_or o 1 (pos 0)) = search rules in
    let f2 : SFits w8 (get_or o 2 (pos 0)) = search rules in
    let f3 : SFits w8 (get_or o 3 (pos 0)) = search rules in
    let g0 : SFits w8 (get_or n 0 (pos 0)) = search rules in
    let g1 : SFits w8 (get_or n 1 (pos 0)) = search rules in
    let g2 : SFits w8 (get_or n 2 (pos 0)) = search rules in
    let g3 : SFits w8 (get_or n 3 (pos 0)) = search rules in
    let w0 = rw (read (get_or o 0 (pos 0)) f0) at c.in_ok-write_signed.ensures in
    let w1 = rw (read (get_or o 1 (pos 0)) f1) at c.in_ok-write_signed-2.ensures in
    let w2 = rw (read (get_or o 2 (pos 0)) f2) at c.in_ok-write_signed-3.ensures in
    let w3 = rw (read (get_or o 3 (pos 0)) f3) at c.in_ok-write_signed-4.ensures in
    Continues-then (four_written (λ i. optional_signed c.args.bits (get_or o i (pos 0))) w0 w1 w2 w3)
    (Continues-given (four_signed_are n _ _ _ _ c.told-new (read _ g0) (read _ g1) (read _ g2) (read _ g3)) _)
