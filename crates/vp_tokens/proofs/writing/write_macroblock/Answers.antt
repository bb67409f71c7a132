use Rattle.std.proofs.Common.{sym, ◌∙◌, subst, arith}
use Rattle.vp_base.specs.Grid.{with_entry}
use Rattle.vp_tokens.specs.Blocks.{Blocks}
use Rattle.vp_tokens.specs.Contexts.{had_of, Contexts, AreContextsAt, right}
use Rattle.vp_tokens.proofs.Steps.{step}
use Rattle.vp_tokens.proofs.Reading.{above_at-is, left_at-is}
use Rattle.vp_tokens.proofs.MacroblockWriting.{macroblock_written}
use Rattle.vp_tokens.proofs.writing.write_macroblock.Goals as goal

pub returns-clause-writes : goal.returns-clause-writes
returns-clause-writes c g f =
    let p = c.args.place in
    let old = c.args.contexts.now in
    let above = c.above_of-above.ensures ∙ above_at-is g p old f (let e = f.columns in omega arith) in
    let left = c.left_of-left.ensures ∙ left_at-is g p old f in
    macroblock_written c.args.probabilities.now g p c.args.has_y2 c.args.skipped _ _ _ above left c.in_ok-write_all.ensures

pub returns-clause-stands : goal.returns-clause-stands
returns-clause-stands c g has f =
    let m : Blocks = record { has_y2 = c.args.has_y2; had = had_of c.args.tokens.now.blocks } in
    subst (λ (w : Contexts). AreContextsAt (with_entry g c.args.place m) (right c.args.place) w) (sym c.keep.ensures) (step g c.args.place m f.whole has c.args.contexts.now f)
