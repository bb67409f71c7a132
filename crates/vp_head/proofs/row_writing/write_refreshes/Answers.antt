use Rattle.std.proofs.Common.{true}
use Rattle.vp_bool.proofs.WritingLemmas.{Writes-then, Continues-none}
use Rattle.vp_head.specs.Header.{refreshes}
use Rattle.vp_head.proofs.Signs.{not_false}
use Rattle.vp_head.proofs.row_writing.write_refreshes.Goals as goal

pub write_copy_if-requires : goal.write_copy_if-requires
write_copy_if-requires c h = c.requires.no_copy_to_golden (not_false _ h)

pub write_copy_if-requires-2 : goal.write_copy_if-requires-2
write_copy_if-requires-2 c h = c.requires.no_copy_to_alt (not_false _ h)

pub returns : goal.returns
unfolding refreshes
returns c kept same =
    let r = c.requires in
    let k = not_false c.args.key in
    Writes-then _ (c.in_ok-write_flag_if.ensures true (λ h. r.golden (k h)))
    (Writes-then _ (c.in_ok-write_flag_if-2.ensures true (λ h. r.alt (k h)))
    (Writes-then _ c.in_ok-write_copy_if.ensures
    (Writes-then _ c.in_ok-write_copy_if-2.ensures
    (Writes-then _ (c.in_ok-write_flag_if-3.ensures kept.golden (λ h i. (same (k h) i).golden))
    (Writes-then _ (c.in_ok-write_flag_if-4.ensures kept.alt (λ h i. (same (k h) i).alt))
    (Writes-then _ c.in_ok-write.ensures.reads (Writes-then _ (c.in_ok-write_flag_if-5.ensures true (λ h. r.last (k h))) (Continues-none _ _))))))))
