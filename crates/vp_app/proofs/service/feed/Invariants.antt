use Rattle.std.proofs.Common.{ℕ, List}
use Rattle.std.specs.Io.KnownBytes.{Consumes}
use Rattle.vp_base.specs.Counted.{counted_remaining}
use Rattle.vp_app.proofs.FeedingLemmas.{IsFeeding}
use Rattle.vp_app.proofs.service.feed.Given as goal

abbrev pub invariant-loop-turn : goal.invariant-loop-turn
invariant-loop-turn g l =
    (file : List ℕ)
    × Consumes (counted_remaining g.R.Read.remaining l.fn.reader) (counted_remaining g.R.Read.remaining l.reader) file
    × IsFeeding l.name l.fn.hub.state l.hub.state file
