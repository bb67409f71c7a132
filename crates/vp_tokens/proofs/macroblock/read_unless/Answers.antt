use Rattle.std.proofs.Common.{◌≡◌, ◌∙◌, sym, ap, subst, refl, rules}
use Rattle.vp_tokens.specs.Blocks.{no_blocks}
use Rattle.vp_tokens.specs.Contexts.{had_of, flag_at, bottom_row_flags, right_column_flags}
use Rattle.vp_tokens.specs.Pieces.{y2_or, all_blocks}
use Rattle.vp_tokens.specs.Flagged.{by_flags}
use Rattle.vp_tokens.specs.Placed.{Reading, reading, blocks_read}
use Rattle.vp_tokens.proofs.Reading.{all_read}
use Rattle.vp_tokens.proofs.FlagLemmas.{IsRead, read-all, above-read, left-read}
use Rattle.vp_tokens.proofs.macroblock.read_unless.Goals as goal
use Rattle.vp_tokens.proofs.macroblock.read_unless.Goals.{Else-skipped}

pub returns-then-skipped-clause-value : goal.returns-then-skipped-clause-value
returns-then-skipped-clause-value c = rw c.if-skipped.true (c.requires c.if-skipped.true)

pub returns-then-skipped-clause-rest : goal.returns-then-skipped-clause-rest
returns-then-skipped-clause-rest c = rw c.if-skipped.true refl

read : (c : Else-skipped) → IsRead c.args.probabilities.now c.args.has_y2 c.args.flags.now.above c.args.flags.now.left c.args.d.now 25
    (blocks_read c.args.probabilities.now c.args.has_y2 (reading no_blocks c.args.flags.now) c.args.d.now).0 (blocks_read c.args.probabilities.now c.args.has_y2 (reading no_blocks c.args.flags.now) c.args.d.now).1
read c = read-all c.args.probabilities.now c.args.has_y2 (reading no_blocks c.args.flags.now) c.args.d.now (search rules) (search rules) refl

blocks : (c : Else-skipped) → all_blocks c.args.probabilities.now c.args.has_y2 c.args.skipped (by_flags c.args.flags.now.above c.args.flags.now.left) c.args.d.now
    ≡ ((blocks_read c.args.probabilities.now c.args.has_y2 (reading no_blocks c.args.flags.now) c.args.d.now).0.blocks, (blocks_read c.args.probabilities.now c.args.has_y2 (reading no_blocks c.args.flags.now) c.args.d.now).1)
blocks c = all_read c.args.probabilities.now c.args.has_y2 c.args.skipped (by_flags c.args.flags.now.above c.args.flags.now.left) c.args.d.now _ c.if-skipped.false (read c).so_far

pub returns-else-skipped-clause-value : goal.returns-else-skipped-clause-value
returns-else-skipped-clause-value c =
    let e = (goal.at.returns-else-skipped-clause-value c).Else-skipped in
    ap (λ (r : Reading). r.blocks) c.read_all.ensures.value ∙ (λ i. (sym (blocks e) i).0)

pub returns-else-skipped-clause-rest : goal.returns-else-skipped-clause-rest
returns-else-skipped-clause-rest c =
    let e = (goal.at.returns-else-skipped-clause-rest c).Else-skipped in
    c.read_all.ensures.rest ∙ (λ i. (sym (blocks e) i).1)

pub returns-else-skipped-clause-above : goal.returns-else-skipped-clause-above
returns-else-skipped-clause-above c =
    let e = (goal.at.returns-else-skipped-clause-above c).Else-skipped in
    let P : Reading → Type 0 = λ r. r.above ≡ bottom_row_flags (had_of r.blocks) (y2_or (record { has_y2 = c.args.has_y2; had = had_of r.blocks }) (flag_at c.args.flags.now.above 8)) in
    subst P (sym c.read_all.ensures.value) (above-read _ c.args.has_y2 _ _ _ _ _ (search rules) (read e))

pub returns-else-skipped-clause-left : goal.returns-else-skipped-clause-left
returns-else-skipped-clause-left c =
    let e = (goal.at.returns-else-skipped-clause-left c).Else-skipped in
    let P : Reading → Type 0 = λ r. r.left ≡ right_column_flags (had_of r.blocks) (y2_or (record { has_y2 = c.args.has_y2; had = had_of r.blocks }) (flag_at c.args.flags.now.left 8)) in
    subst P (sym c.read_all.ensures.value) (left-read _ c.args.has_y2 _ _ _ _ _ (search rules) (read e))
