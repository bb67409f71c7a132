use Rattle.std.proofs.Common.{◌≡◌, ◌∙◌, ◌<◌, true, length, arith}
use Rattle.std.proofs.lemmas.List.{get_or_default}
use Rattle.vp_tokens.specs.Block.{no_tokens}
use Rattle.vp_tokens.specs.Blocks.{is_there}
use Rattle.vp_tokens.proofs.FlagLemmas.{above-place, left-place}
use Rattle.vp_tokens.proofs.MacroblockWriting.{there_behind, there_with, block_written, no_block_written, context-by}
use Rattle.vp_tokens.proofs.writing.write_at.Goals as goal
use Rattle.vp_tokens.proofs.writing.write_at.Goals.{then-k-gt0-via-then-k-gt0, then-k-gt0-via-else-k-gt0+then-has_y2}

pub bounds-flags-up : goal.bounds-flags-up
bounds-flags-up c = above-place c.args.k c.requires.k_in

pub bounds-flags-side : goal.bounds-flags-side
bounds-flags-side c = left-place c.args.k c.requires.k_in

pub bounds-flags-up-then-k-gt0 : goal.bounds-flags-up-then-k-gt0
bounds-flags-up-then-k-gt0 c = above-place c.args.k c.requires.k_in

pub bounds-flags-side-then-k-gt0 : goal.bounds-flags-side-then-k-gt0
bounds-flags-side-then-k-gt0 c = left-place c.args.k c.requires.k_in

pub returns-in_ok-write_block-clause-writes : goal.returns-in_ok-write_block-clause-writes
returns-in_ok-write_block-clause-writes c above left around =
    let blocks = c.args.blocks.now in
    let k = c.args.k in
    let within : k < length blocks = omega (arith, c.told-blocks) in
    let there : is_there c.args.has_y2 k ≡ true = elim c.then-k-gt0.branch [
      | then-k-gt0-via-then-k-gt0 w ↦ there_behind c.args.has_y2 k (omega (arith, w.if-k-gt0.true))
      | then-k-gt0-via-else-k-gt0+then-has_y2 w ↦ there_with c.args.has_y2 k w.if-has_y2.true
    ] in
    let context = c.count-context.ensures.value ∙ context-by c.args.has_y2 above left blocks k c.args.flags.now c.requires.k_in there around in
    let here = get_or_default blocks k c.index-blocks-k.result no_tokens within in
    block_written c.args.probabilities.now c.args.has_y2 above left k c.count-context.result blocks _ within there context here (rw c.kind_of.ensures at c.in_ok-write_block.ensures)

pub returns-else-has_y2-clause-writes : goal.returns-else-has_y2-clause-writes
returns-else-has_y2-clause-writes c above left around =
    no_block_written c.args.probabilities.now c.args.has_y2 above left c.args.k c.args.blocks.now _ (omega (arith, c.if-k-gt0.false)) c.if-has_y2.false (c.requires.spelled.no_y2 c.if-has_y2.false)
