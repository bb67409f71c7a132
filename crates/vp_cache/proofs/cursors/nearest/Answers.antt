use Rattle.std.proofs.Common.{true, false, sym, ◌∙◌}
use Rattle.vp_cache.proofs.CursorLemmas.{nearest_step}
use Rattle.vp_cache.proofs.cursors.nearest.Goals as goal
use Rattle.vp_cache.proofs.cursors.nearest.Goals.{then-is_between, else-is_between}

pub loop-entry-preserved : goal.loop-entry-preserved
loop-entry-preserved c = elim c.if-is_between.branch [
  | then-is_between w ↦
      nearest_step c.args.stream_no c.args.start c.args.end c.args.entries.now c.loop-entry.entry-index c.entry-item.result c.loop-entry.best c.if-is_between.best true
      c.loop-entry-test.true c.entry-item.is c.loop-entry.invariant (sym w.if-is_between.true ∙ c.is_between.ensures) cc
  | else-is_between w ↦
      nearest_step c.args.stream_no c.args.start c.args.end c.args.entries.now c.loop-entry.entry-index c.entry-item.result c.loop-entry.best c.if-is_between.best false
      c.loop-entry-test.true c.entry-item.is c.loop-entry.invariant (sym w.if-is_between.false ∙ c.is_between.ensures) cc
]
