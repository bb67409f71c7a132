use Rattle.std.proofs.Common.{◌≡◌, ◌≤◌, ◌-◌, ◌+◌, take, drop}
use Rattle.std.specs.Io.KnownBytes.{Consumes}
use Rattle.vp_base.specs.Counted.{counted_remaining, counted_failures, counted_reads}
use Rattle.vp_y4m.proofs.pixels.fill.Given as goal

abbrev pub invariant-loop-filled : goal.invariant-loop-filled
invariant-loop-filled g l =
    (counted_failures l.reader ≡ counted_failures l.fn.reader)
    × (l.filled ≤ l.w)
    × (counted_reads l.reader ≤ counted_reads l.fn.reader + l.filled)
    × Consumes (counted_remaining g.R.Read.remaining l.fn.reader) (counted_remaining g.R.Read.remaining l.reader) (take l.filled l.row)
    × (drop l.w l.row ≡ drop l.w l.fn.row)

abbrev pub decreases-loop-filled : goal.decreases-loop-filled
decreases-loop-filled g l = l.w - l.filled
