use Rattle.std.specs.Prelude.{slice_set}
use Rattle.std.proofs.Common.{◌≡◌, Bool, sym, ◌∙◌, ap, subst, List, length, length-set}
use Rattle.vp_base.specs.Grid.{with_entry}
use Rattle.vp_tokens.specs.Blocks.{Blocks, no_blocks}
use Rattle.vp_tokens.specs.Contexts.{had_of, flag_at, Contexts, AreContextsAt, right, bottom_row_flags, right_column_flags}
use Rattle.vp_tokens.specs.Pieces.{y2_or}
use Rattle.vp_tokens.specs.Flagged.{flags_after}
use Rattle.vp_tokens.proofs.Steps.{step}
use Rattle.vp_tokens.proofs.Reading.{macroblock-skipped}
use Rattle.vp_tokens.proofs.macroblock.skip_macroblock.Goals as goal

pub returns : goal.returns
returns c =
    let p = c.args.place in
    let old = c.args.contexts.now in
    let m : Blocks = record { has_y2 = c.args.has_y2; had = had_of no_blocks } in
    let lower = c.flags_without-above.ensures.bottom_row_flags ∙ ap (λ (l : List Bool). bottom_row_flags m.had (y2_or m (flag_at l 8))) c.above_of.ensures in
    let side = c.flags_without-left.ensures.right_column_flags ∙ ap (λ (l : List Bool). right_column_flags m.had (y2_or m (flag_at l 8))) c.left_of.ensures in
    let kept : c.put.new.self ≡ flags_after old p m = c.put.ensures ∙ (λ i. record { above = slice_set old.above p.column (lower i); left = side i }) in
    record {
      value = λ g d probabilities f. macroblock-skipped probabilities g p c.args.has_y2 d;
      stands = λ g has f. subst (λ (w : Contexts). AreContextsAt (with_entry g p m) (right p) w) (sym kept) (step g p m f.whole has old f);
      columns = ap (λ (w : Contexts). length w.above) c.put.ensures ∙ length-set old.above p.column _;
    }
