use Rattle.std.proofs.Common.{◌≡◌, ◌≤◌, ◌+◌, take, length}
use Rattle.vp_base.specs.Counted.{counted_remaining, counted_failures, counted_reads}
use Rattle.vp_y4m.proofs.LineLemmas.{IsLineSoFar}
use Rattle.vp_y4m.proofs.line.read_line.Given as goal

abbrev pub invariant-loop-n : goal.invariant-loop-n
invariant-loop-n g l =
    (counted_failures l.reader ≡ counted_failures l.fn.reader)
    × (length l.line ≡ 1024)
    × (counted_reads l.reader ≤ counted_reads l.fn.reader + l.n)
    × IsLineSoFar (take l.n l.line) (counted_remaining g.R.Read.remaining l.fn.reader) (counted_remaining g.R.Read.remaining l.reader)
