use Rattle.std.proofs.Common.{◌≡◌, ℕ, List}
use Rattle.std.specs.Io.KnownBytes.{Consumes}
use Rattle.vp_base.specs.Counted.{counted_remaining, counted_contents, counted_failures, counted_reads, HasRisenBy}
use Rattle.vp_hub.proofs.Visiting.{IsTalking}
use Rattle.vp_hub.proofs.session.serve_open.Given as goal

abbrev pub invariant-loop-turn : goal.invariant-loop-turn
invariant-loop-turn g l =
    (read : List ℕ)
    × Consumes (counted_remaining g.R.Read.remaining l.fn.reader) (counted_remaining g.R.Read.remaining l.reader) read
    × IsTalking l.fn.conn l.fn.hub l.hub read (counted_contents g.W.Write.contents l.fn.writer) (counted_contents g.W.Write.contents l.writer) l._turn
    × (counted_failures l.reader ≡ counted_failures l.fn.reader)
    × (counted_failures l.writer ≡ counted_failures l.fn.writer)
    × HasRisenBy l._turn (counted_reads l.fn.reader) (counted_reads l.reader)
