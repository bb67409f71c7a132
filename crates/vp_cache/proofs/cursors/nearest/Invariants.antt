use Rattle.std.proofs.Common.{◌≡◌, take}
use Rattle.vp_cache.specs.Cursors.{nearest_between}
use Rattle.vp_cache.proofs.cursors.nearest.Given as goal

abbrev pub invariant-loop-entry : goal.invariant-loop-entry
invariant-loop-entry l = l.best ≡ nearest_between l.stream_no l.start l.end (take l.entry-index l.entries)
