use Rattle.std.specs.Prelude.{slice_set}
use Rattle.std.proofs.Common.{◌≡◌, Bool, sym, ◌∙◌, ap, subst, arith, List, length, length-set}
use Rattle.vp_tokens.specs.declared.contexts.Tokens.{Tokens}
use Rattle.vp_tokens.specs.Block.{Block}
use Rattle.vp_tokens.specs.Blocks.{Blocks}
use Rattle.vp_tokens.specs.Contexts.{had_of, flag_at, Contexts, AreContextsAt, right, bottom_row_flags, right_column_flags}
use Rattle.vp_tokens.specs.Pieces.{y2_or}
use Rattle.vp_base.specs.Grid.{Grid, with_entry}
use Rattle.vp_tokens.proofs.Steps.{step}
use Rattle.vp_tokens.specs.Flagged.{by_flags, flags_after}
use Rattle.vp_tokens.proofs.ReadBack.{all_spelled, skipped_none}
use Rattle.vp_tokens.proofs.Reading.{above_at-is, left_at-is, macroblock-is}
use Rattle.vp_tokens.proofs.macroblock.read_macroblock.Goals as goal

pub returns : goal.returns
returns c =
    let p = c.args.place in
    let old = c.args.contexts.now in
    let above = λ (g : Grid Blocks) (f : AreContextsAt g p old). c.above_of.ensures ∙ above_at-is g p old f (let e = f.columns in omega arith) in
    let left = λ (g : Grid Blocks) (f : AreContextsAt g p old). c.left_of.ensures ∙ left_at-is g p old f in
    let same = λ (g : Grid Blocks) (f : AreContextsAt g p old). macroblock-is c.args.probabilities.now g p c.args.has_y2 c.args.skipped _ _ (above g f) (left g f) c.args.d.now in
    let m : Blocks = record { has_y2 = c.args.has_y2; had = had_of c.read_unless.new.blocks } in
    let lower = c.read_unless.ensures.above ∙ ap (λ (l : List Bool). bottom_row_flags m.had (y2_or m (flag_at l 8))) c.above_of.ensures in
    let side = c.read_unless.ensures.left ∙ ap (λ (l : List Bool). right_column_flags m.had (y2_or m (flag_at l 8))) c.left_of.ensures in
    let kept : c.put.new.self ≡ flags_after old p m = c.put.ensures ∙ (λ i. record { above = slice_set old.above p.column (lower i); left = side i }) in
    record {
      value = λ g f. ap (λ (z : List Block). let t : Tokens = record { blocks = z } in t) c.read_unless.ensures.value ∙ (λ i. (same g f i).0);
      rest = λ g f. c.read_unless.ensures.rest ∙ (λ i. (same g f i).1);
      stands = λ g has f. subst (λ (w : Contexts). AreContextsAt (with_entry g p m) (right p) w) (sym kept) (step g p m f.whole has old f);
      spelled = rw c.read_unless.ensures.value (all_spelled c.args.probabilities.now c.args.has_y2 (by_flags c.above_of.result c.left_of.result) c.args.skipped c.args.d.now);
      none = λ e. c.read_unless.ensures.value ∙ skipped_none c.args.probabilities.now c.args.has_y2 (by_flags c.above_of.result c.left_of.result) c.args.skipped c.args.d.now e;
      columns = ap (λ (w : Contexts). length w.above) c.put.ensures ∙ length-set old.above p.column _;
    }
