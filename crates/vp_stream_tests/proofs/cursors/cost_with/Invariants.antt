use Rattle.std.proofs.Common.{◌≡◌}
use Rattle.vp_cache.specs.Cursors.{AreCursorsOf}
use Rattle.vp_stream_tests.proofs.cursors.cost_with.Given as goal

abbrev pub invariant-loop-n : goal.invariant-loop-n
invariant-loop-n g l = AreCursorsOf 0 l.stream l.cursors.entries × (l.stream.limits ≡ l.cursors.limits)
