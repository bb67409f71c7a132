use Rattle.std.proofs.Common.{◌≡◌, sym, arith, refl, rules}
use Rattle.vp_tokens.specs.Blocks.{block_at, no_blocks}
use Rattle.vp_tokens.specs.Flagged.{by_flags}
use Rattle.vp_bool.proofs.WritingLemmas.{rows-written}
use Rattle.vp_tokens.proofs.MacroblockWriting.{rows-begun, prefix_blocks-none, prefix_blocks-all, all_written, none_written}
use Rattle.vp_tokens.proofs.writing.write_all.Goals as goal

pub returns-then-skipped : goal.returns-then-skipped
returns-then-skipped c = none_written c.args.probabilities.now c.args.has_y2 c.args.skipped _ c.args.blocks.now _ c.if-skipped.true (sym (c.requires.skipped c.if-skipped.true))

pub loop-k-init : goal.loop-k-init
loop-k-init c = record {
  around = record { above_nine = search rules; left_nine = search rules; above_is = refl; left_is = refl };
  written = rows-begun _ _ _ _ (prefix_blocks-none c.args.blocks.now c.told-blocks);
}

pub loop-k-preserved : goal.loop-k-preserved
loop-k-preserved c = record {
  around = c.in_ok-write_at.ensures.flags c.args.above.now c.args.left.now c.loop-k.invariant.around;
  written =
      rows-written c.loop-k.k (block_at c.args.probabilities.now c.args.has_y2 (by_flags c.args.above.now c.args.left.now)) no_blocks _ _ c.loop-k.invariant.written
      (c.in_ok-write_at.ensures.writes c.args.above.now c.args.left.now c.loop-k.invariant.around);
}

pub returns : goal.returns
returns c =
    let all : c.loop-k.k ≡ 25 = omega arith in
    let whole = prefix_blocks-all c.args.blocks.now 25 (omega (arith, c.told-blocks)) in
    all_written c.args.probabilities.now c.args.has_y2 c.args.skipped _ c.args.blocks.now c.if-skipped.false (rw whole at (rw all at c.loop-k.invariant.written))
