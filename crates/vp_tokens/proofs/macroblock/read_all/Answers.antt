use Rattle.std.proofs.Common.{◌≡◌, ◌∙◌, sym, ap, arith, rules, List, length, length-set}
use Rattle.vp_bool.specs.Bools.{State}
use Rattle.vp_bool.specs.Reader.{when}
use Rattle.vp_bool.proofs.ReaderLemmas.{gives}
use Rattle.vp_tokens.specs.declared.block.BlockKind.TheVariants as kind_is
use Rattle.vp_tokens.specs.Block.{Block, no_tokens}
use Rattle.vp_tokens.specs.Blocks.{no_blocks}
use Rattle.vp_tokens.specs.Placed.{Reading, reading, plane}
use Rattle.vp_tokens.proofs.FlagLemmas.{when-true, when-false, all-placed}
use Rattle.vp_tokens.proofs.FreshLemmas.{fresh, fresh-set, all_fresh, plane-fresh, plane-whole}
use Rattle.vp_tokens.proofs.macroblock.read_all.Goals as goal
use Rattle.vp_tokens.proofs.macroblock.read_all.Goals.{then-has_y2, else-has_y2, Joined-has_y2}

-- what is read after the Y2 block, in place of blocks without tokens
y2 : (c : Joined-has_y2) → when c.args.has_y2 (plane c.args.probabilities.now kind_is.Y2 0 1 (reading no_blocks c.args.flags.now)) (reading no_blocks c.args.flags.now) c.args.d.now
    ≡ (fresh 1 (reading c.if-has_y2.blocks c.if-has_y2.flags), c.if-has_y2.d)
y2 c =
    let start = reading c.args.blocks.now c.args.flags.now in
    let whole : length c.args.blocks.now ≡ 25 = search rules in
    elim c.if-has_y2.branch [
      | then-has_y2 w ↦
          rw (w.blocks-is, w.flags-is, w.d-is)
          (when-true c.args.has_y2 _ (reading no_blocks c.args.flags.now) c.args.d.now w.if-has_y2.true
          ∙ plane-fresh c.args.probabilities.now kind_is.Y2 0 1 start c.args.d.now (omega arith) whole
          ∙ sym (λ i. (fresh 1 (w.read_plane.ensures.value i), w.read_plane.ensures.rest i)))
      | else-has_y2 w ↦
          rw (w.blocks-is, w.flags-is, w.d-is)
          (when-false c.args.has_y2 _ (reading no_blocks c.args.flags.now) c.args.d.now w.if-has_y2.false
          ∙ ap (λ (bs : List Block). (reading bs c.args.flags.now, c.args.d.now)) (fresh-set 0 c.args.blocks.now no_tokens (omega arith) whole))
    ]

whole : (c : Joined-has_y2) → length c.if-has_y2.blocks ≡ 25
whole c =
    let start = reading c.args.blocks.now c.args.flags.now in
    let before : length c.args.blocks.now ≡ 25 = search rules in
    elim c.if-has_y2.branch [
      | then-has_y2 w ↦
          rw w.blocks-is
          (ap (λ (r : Reading). length r.blocks) w.read_plane.ensures.value ∙ plane-whole c.args.probabilities.now kind_is.Y2 0 1 start c.args.d.now ∙ before)
      | else-has_y2 w ↦ rw w.blocks-is (length-set c.args.blocks.now 0 no_tokens ∙ before)
    ]

pub returns : goal.returns
returns c =
    let p = c.args.probabilities.now in
    let luma = c.read_plane-2.ensures in
    let chroma = c.read_plane-3.ensures in
    let end = c.read_plane-3.new in
    let r1 = reading c.if-has_y2.blocks c.if-has_y2.flags in
    let r2 = reading c.read_plane-2.new.blocks c.read_plane-2.new.flags in
    let r3 = reading end.blocks end.flags in
    let whole1 = whole (goal.at.returns c).Joined-has_y2 in
    let whole2 = ap (λ (r : Reading). length r.blocks) luma.value ∙ plane-whole p c.kind_of-luma.result 1 16 r1 c.if-has_y2.d ∙ whole1 in
    let whole3 = ap (λ (r : Reading). length r.blocks) chroma.value ∙ plane-whole p kind_is.Chroma 17 8 r2 c.read_plane-2.new.d ∙ whole2 in
    let two = plane-fresh p c.kind_of-luma.result 1 16 r1 c.if-has_y2.d (omega arith) whole1 in
    let three = plane-fresh p kind_is.Chroma 17 8 r2 c.read_plane-2.new.d (omega arith) whole2 in
    let all = all-placed p c.args.has_y2 c.kind_of-luma.result (reading no_blocks c.args.flags.now) (fresh 1 r1) (fresh 17 r2) (fresh 25 r3) c.args.d.now _ _ _
    (y2 (goal.at.returns c).Joined-has_y2) c.kind_of-luma.ensures
    (ap (fresh 17) luma.value ∙ sym (ap (λ (z : Reading × State). z.0) two)) (luma.rest ∙ sym (ap (λ (z : Reading × State). z.1) two))
    (ap (fresh 25) chroma.value ∙ sym (ap (λ (z : Reading × State). z.0) three)) (chroma.rest ∙ sym (ap (λ (z : Reading × State). z.1) three)) in
    let g = gives _ _ _ (all ∙ ap (λ (r : Reading). (r, end.d)) (all_fresh r3 whole3)) in
    record { value = g.value; rest = g.rest }
