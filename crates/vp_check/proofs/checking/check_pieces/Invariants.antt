use Rattle.std.proofs.Common.{◌≡◌, ℕ, List}
use Rattle.std.specs.Io.KnownBytes.{Consumes}
use Rattle.vp_base.specs.Counted.{counted_remaining, counted_failures, counted_reads, HasRisenBy}
use Rattle.vp_check.proofs.CheckLemmas.{IsChecking}
use Rattle.vp_check.proofs.checking.check_pieces.Given as goal

abbrev pub invariant-loop-turn : goal.invariant-loop-turn
invariant-loop-turn g l =
    ((fed : List ℕ)
    × Consumes (counted_remaining g.R.Read.remaining l.fn.reader) (counted_remaining g.R.Read.remaining l.reader) fed
    × IsChecking l.fn.packets.limits l.file l.packets l._turn fed)
    × (counted_failures l.reader ≡ counted_failures l.fn.reader)
    × HasRisenBy l._turn (counted_reads l.fn.reader) (counted_reads l.reader)
